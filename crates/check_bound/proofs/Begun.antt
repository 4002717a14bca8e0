-- The check of each kind of expression, by what comes first of it.
use Rattle.std.specs.Prelude.{◌≡◌, List, [], Option, Some, None, option_copied}
use Rattle.std.specs.Borrow.{Bor}
use Rattle.std.specs.declared.alloc.Global.{Global}
use Rattle.std.specs.declared.boxed.Box.{Box}
use Rattle.std.proofs.Common.{ap, refl, sym, ◌∙◌}
use Rattle.vdm_kinds.specs.declared.place.Place.{Place}
use Rattle.abstract_syntax.specs.Expressions.{
  ExprTree,
  set_comprehension,
  map_comprehension,
  sequence_comprehension,
  let_in,
  let_be,
  def_in,
  if_else,
  cases_of,
  for_all,
  exists_some,
  exists_one,
  iota_of,
  BindTrees,
  BranchTrees,
  DefinedTrees,
  MaybeExpr,
  given_expr,
  PatternTree,
  PatternTrees,
  bind_in,
  no_binds,
  no_patterns,
  one_pattern,
  expr_place,
}
use Rattle.expr_tree.specs.View.{CaseView, case_trees, maybe_view}
use Rattle.expr_tree.specs.declared.expr.Expr.{Expr}
use Rattle.form_meaning.specs.Forms.{FormTree, no_form}
use Rattle.class_checks.specs.Expressions.{bound_by, bound_in, check, defined_in, set_faults, where_true}
use Rattle.class_checks.specs.Patterns.{binds, elements_of, pattern_faults}
use Rattle.class_checks.specs.Results.{after, gives, refusing}
use Rattle.class_checks.specs.Scopes.{ScopeTree, inside, type_scope}
use Rattle.check_frames.specs.Below.check_scopes.specs.Told.{spec_in}
use Rattle.check_frames.specs.Below.check_scopes.specs.declared.setting.Setting.{Setting}
use Rattle.check_frames.specs.Below.check_shapes.specs.declared.shape.Shape.TheVariants.{Condition, Map, Sequence, Set}
use Rattle.check_frames.specs.Below.check_patterns.specs.Givens.{givens-listed, givens_each-listed}
use Rattle.check_frames.specs.Meant.{
  bind_check,
  bound_behind,
  boxed,
  branch_check,
  cases_check,
  def_behind,
  def_bound,
  inside_of,
  iota_behind,
  iota_bound,
  let_body,
  maybe_boxed,
  otherwise_of,
  others_of,
  part_then,
  then_check,
  last_check,
}
use Rattle.check_frames.specs.declared.inside.Body.TheVariants.{Expr as OneExpr, Parts}
use Rattle.check_frames.specs.declared.rest.Rest.TheVariants.{One, Two}

abbrev Boxed : Type 0
Boxed = Bor (Box Expr Global)

-- what may be left out, lent
pub maybe_same : (given : Option (Box Expr Global)) (lent : Option Boxed) → option_copied lent ≡ given → maybe_boxed lent ≡ maybe_view given
maybe_same given lent is = same lent ∙ ap maybe_view is
  where
    same : (lent : Option Boxed) → maybe_boxed lent ≡ maybe_view (option_copied lent)
    same None = refl
    same (Some e) = refl

module _ (setting : Setting) (scope : ScopeTree) where
  -- ---- inside binds

  pub set_of_begun : (element : Boxed) (binds : BindTrees) (condition : Option Boxed) (place : Place)
      → check (spec_in setting) scope (set_comprehension (boxed element) binds (maybe_boxed condition) place)
      ≡ bound_by (spec_in setting) scope [] binds (inside_of setting scope (record { condition = condition; body = Parts Set (One element) }))
  unfolding check inside_of part_then
  set_of_begun element binds condition place = refl

  pub map_of_begun : (key value : Boxed) (binds : BindTrees) (condition : Option Boxed) (place : Place)
      → check (spec_in setting) scope (map_comprehension (boxed key) (boxed value) binds (maybe_boxed condition) place)
      ≡ bound_by (spec_in setting) scope [] binds (inside_of setting scope (record { condition = condition; body = Parts Map (Two key value) }))
  unfolding check inside_of part_then
  map_of_begun key value binds condition place = refl

  pub sequence_of_begun : (item : Boxed) (pattern : PatternTree) (set : ExprTree) (condition : Option Boxed) (place : Place)
      → check (spec_in setting) scope (sequence_comprehension (boxed item) pattern set (maybe_boxed condition) place)
      ≡ bind_check setting scope [] (one_pattern pattern no_patterns) set no_binds (record { condition = condition; body = Parts Sequence (One item) })
  unfolding check inside_of part_then bind_check bound_behind
  sequence_of_begun item pattern set condition place = λ i.
      after (check (spec_in setting) scope set) (λ (form : FormTree).
      refusing (set_faults (spec_in setting) scope (one_pattern pattern no_patterns) (expr_place set) form)
      (givens_each-listed (spec_in setting) scope (one_pattern pattern no_patterns)
      (inside_of setting scope (record { condition = condition; body = Parts Sequence (One item) })
      (bound_in (spec_in setting) scope [] (one_pattern pattern no_patterns) form))
      i))

  pub let_be_begun : (patterns : PatternTrees) (set : ExprTree) (condition : Option Boxed) (body : Boxed) (place : Place)
      → check (spec_in setting) scope (let_be (bind_in patterns set) (maybe_boxed condition) (boxed body) place)
      ≡ bind_check setting scope [] patterns set no_binds (record { condition = condition; body = OneExpr body })
  unfolding check inside_of bind_check bound_behind
  let_be_begun patterns set condition body place = λ i.
      after (check (spec_in setting) scope set) (λ (form : FormTree).
      refusing (set_faults (spec_in setting) scope patterns (expr_place set) form)
      (givens_each-listed (spec_in setting) scope patterns
      (inside_of setting scope (record { condition = condition; body = OneExpr body }) (bound_in (spec_in setting) scope [] patterns form)) i))

  pub for_all_begun : (binds : BindTrees) (condition : Boxed) (place : Place)
      → check (spec_in setting) scope (for_all binds (boxed condition) place)
      ≡ bound_by (spec_in setting) scope [] binds (inside_of setting scope (record { condition = None; body = Parts Condition (One condition) }))
  unfolding check inside_of part_then
  for_all_begun binds condition place = refl

  pub exists_begun : (binds : BindTrees) (condition : Boxed) (place : Place)
      → check (spec_in setting) scope (exists_some binds (boxed condition) place)
      ≡ bound_by (spec_in setting) scope [] binds (inside_of setting scope (record { condition = None; body = Parts Condition (One condition) }))
  unfolding check inside_of part_then
  exists_begun binds condition place = refl

  pub exists_one_begun : (patterns : PatternTrees) (set : ExprTree) (condition : Boxed) (place : Place)
      → check (spec_in setting) scope (exists_one (bind_in patterns set) (boxed condition) place)
      ≡ bind_check setting scope [] patterns set no_binds (record { condition = None; body = Parts Condition (One condition) })
  unfolding check inside_of part_then bind_check bound_behind
  exists_one_begun patterns set condition place = λ i.
      after (check (spec_in setting) scope set) (λ (form : FormTree).
      refusing (set_faults (spec_in setting) scope patterns (expr_place set) form)
      (givens_each-listed (spec_in setting) scope patterns
      (inside_of setting scope (record { condition = None; body = Parts Condition (One condition) }) (bound_in (spec_in setting) scope [] patterns form)) i))

  -- ---- what binds otherwise, or chooses

  pub let_begun : (definitions : DefinedTrees) (body : ExprTree) (place : Place)
      → check (spec_in setting) scope (let_in definitions body place) ≡ defined_in (spec_in setting) scope definitions (let_body setting body)
  unfolding check let_body
  let_begun definitions body place = refl

  pub def_begun : (pattern : PatternTree) (value body : ExprTree) (place : Place)
      → check (spec_in setting) scope (def_in pattern value body place)
      ≡ after (check (spec_in setting) scope value) (def_behind setting scope pattern body)
  unfolding check def_bound let_body
  def_begun pattern value body place = λ i.
      after (check (spec_in setting) scope value) (λ (form : FormTree).
      refusing (pattern_faults (spec_in setting) (type_scope scope) pattern)
      (givens-listed (spec_in setting) scope pattern
      (check (spec_in setting) (inside scope (binds (spec_in setting) (type_scope scope) form pattern)) body) i))

  pub if_else_begun : (condition value : ExprTree) (elseifs : BranchTrees) (otherwise : ExprTree) (place : Place)
      → check (spec_in setting) scope (if_else condition value elseifs otherwise place)
      ≡ branch_check setting scope no_form condition value elseifs otherwise
  unfolding check branch_check then_check otherwise_of last_check
  if_else_begun condition value elseifs otherwise place = refl

  pub cases_begun : (subject : ExprTree) (cases : List CaseView) (others : MaybeExpr) (place : Place)
      → check (spec_in setting) scope (cases_of subject (case_trees cases) others place)
      ≡ after (check (spec_in setting) scope subject) (λ (form : FormTree). cases_check setting scope form no_form cases others)
  unfolding check cases_check others_of
  cases_begun subject cases others place = refl

  pub iota_begun : (patterns : PatternTrees) (set condition : ExprTree) (set_place place : Place) → set_place ≡ expr_place set
      → check (spec_in setting) scope (iota_of (bind_in patterns set) condition place)
      ≡ after (check (spec_in setting) scope set) (iota_behind setting scope patterns set_place condition)
  unfolding check iota_bound
  iota_begun patterns set condition set_place place is = λ i.
      after (check (spec_in setting) scope set) (λ (form : FormTree).
      refusing (set_faults (spec_in setting) scope patterns (sym is i) form)
      (givens_each-listed (spec_in setting) scope patterns
      (where_true (spec_in setting)
      (inside scope (bound_in (spec_in setting) scope [] patterns form))
      (given_expr condition)
      (gives (elements_of (spec_in setting) form)))
      i))
