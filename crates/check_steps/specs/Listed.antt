-- Parts, binds, definitions and alternatives: the check of several is that of the first, and of what stands behind it.
use Rattle.std.specs.Prelude.{◌≡◌, List, [], ◌∷◌, map}
use Rattle.std.proofs.Common.{◌≤◌, ◌<◌, ◌-◌, ◌∙◌, ap, arith, drop, get_or, length, refl, sym, take}
use Rattle.vdm_kinds.specs.declared.name.Name.{Name}
use Rattle.abstract_syntax.specs.Expressions.{
  ExprTree,
  BindTree,
  MaybeExpr,
  PatternTrees,
  bind_in,
  expr_place,
  one_bind,
  BindTrees,
}
use Rattle.expr_tree.specs.View.{
  BranchView,
  CaseView,
  DefinedView,
  FieldValueView,
  MapletView,
  bind_trees,
  bind_view,
  branch_trees,
  branch_view,
  case_view,
  defined_trees,
  defined_view,
  expr_trees,
  field_value_trees,
  field_value_view,
  maplet_trees,
  maplet_view,
  maybe_view,
  pattern_trees,
  pattern_views,
  view_of,
  views_of,
}
use Rattle.expr_tree.specs.declared.expr.Expr.{Expr}
use Rattle.expr_tree.specs.declared.parts.Branch.{Branch}
use Rattle.expr_tree.specs.declared.parts.Case.{Case}
use Rattle.expr_tree.specs.declared.parts.Defined.{Defined}
use Rattle.expr_tree.specs.declared.parts.FieldValue.{FieldValue}
use Rattle.expr_tree.specs.declared.parts.Maplet.{Maplet}
use Rattle.expr_tree.specs.declared.pattern.Bind.{Bind}
use Rattle.form_meaning.specs.Forms.{FormTree}
use Rattle.class_checks.specs.Expressions.{
  bound_by,
  bound_in,
  branches,
  changed,
  check,
  defined_in,
  definition_faults,
  inside_definition,
  listed,
  others_in,
  pairs_in,
  set_faults,
}
use Rattle.class_checks.specs.Patterns.{bindings_of, patterns_faults, scopes_behind}
use Rattle.class_checks.specs.Results.{Checked, after, refusing}
use Rattle.class_checks.specs.Scopes.{LocalForm, ScopeTree, type_scope}
use Rattle.class_checks.specs.Shapes.{Seen, ShapeTree, all_done, of_changed, of_map}
use Rattle.check_calls.specs.Below.check_scopes.specs.Told.{spec_in}
use Rattle.check_calls.specs.Below.check_scopes.specs.declared.setting.Setting.{Setting}
use Rattle.check_frames.specs.Below.check_patterns.specs.Givens.{givens-listed, givens_each-listed}
use Rattle.check_frames.specs.Meant.{
  bind_check,
  bound_behind,
  branch_check,
  case_behind,
  case_check,
  cases_check,
  defined_behind,
  inside_of,
  last_check,
  let_body,
  let_check,
  others_of,
  otherwise_of,
  part_then,
  then_check,
  values_in,
}
use Rattle.check_frames.specs.declared.cases.Cases.{Cases}
use Rattle.check_frames.specs.declared.inside.Inside.{Inside}
use Rattle.check_steps.specs.Firsts.{first_and_rest}
use Rattle.check_steps.specs.Viewed.{bind_parts, branch_parts, case_parts, defined_parts, field_parts, maplet_parts}

-- what stands behind the first
abbrev pub behind_first : {A : Type 0} → List A → List A
behind_first xs = take (length xs - 1) (drop 1 xs)

module _ (setting : Setting) (scope : ScopeTree) where
  -- ---- parts of a node

  pub items_none : (shape : ShapeTree) (done : List Seen) (es : List Expr) → length es < 1
      → listed (spec_in setting) scope shape done (expr_trees (views_of es)) ≡ all_done (spec_in setting) shape done
  unfolding check
  items_none shape done [] below = refl
  items_none shape done (e ∷ es) below = absurd (omega (arith, below))

  pub items_first : (shape : ShapeTree) (done : List Seen) (es : List Expr) (e : Expr) → 1 ≤ length es → e ≡ get_or es 0 e
      → listed (spec_in setting) scope shape done (expr_trees (views_of es))
      ≡ part_then setting scope shape done (view_of e) (λ (more : List Seen). listed (spec_in setting) scope shape more (expr_trees (views_of (behind_first es))))
  unfolding check part_then
  items_first shape done es e some is =
      ap (λ (xs : List Expr). listed (spec_in setting) scope shape done (expr_trees (views_of xs))) (first_and_rest es e some is)

  pub pairs_none : (done : List Seen) (ms : List Maplet) → length ms < 1
      → pairs_in (spec_in setting) scope done (maplet_trees (map maplet_view ms)) ≡ all_done (spec_in setting) of_map done
  unfolding check
  pairs_none done [] below = refl
  pairs_none done (m ∷ ms) below = absurd (omega (arith, below))

  pub pairs_first : (done : List Seen) (ms : List Maplet) (m : Maplet) → 1 ≤ length ms → m ≡ get_or ms 0 m
      → pairs_in (spec_in setting) scope done (maplet_trees (map maplet_view ms))
      ≡ part_then setting scope of_map done (view_of m.key.value) (λ (more : List Seen).
      part_then setting scope of_map more (view_of m.value.value) (λ (all : List Seen).
      pairs_in (spec_in setting) scope all (maplet_trees (map maplet_view (behind_first ms)))))
  unfolding check part_then
  pairs_first done ms m some is =
      ap (λ (xs : List Maplet). pairs_in (spec_in setting) scope done (maplet_trees (map maplet_view xs))) (first_and_rest ms m some is)
      ∙ ap (λ (v : MapletView). pairs_in (spec_in setting) scope done (maplet_trees (v ∷ map maplet_view (behind_first ms)))) (maplet_parts m)

  pub fields_none : (names : List Name) (done : List Seen) (fs : List FieldValue) → length fs < 1
      → changed (spec_in setting) scope names done (field_value_trees (map field_value_view fs)) ≡ all_done (spec_in setting) (of_changed names) done
  unfolding check
  fields_none names done [] below = refl
  fields_none names done (f ∷ fs) below = absurd (omega (arith, below))

  pub fields_first : (names : List Name) (done : List Seen) (fs : List FieldValue) (f : FieldValue) → 1 ≤ length fs → f ≡ get_or fs 0 f
      → changed (spec_in setting) scope names done (field_value_trees (map field_value_view fs))
      ≡ part_then setting scope (of_changed names) done (view_of f.value.value) (λ (more : List Seen).
      changed (spec_in setting) scope names more (field_value_trees (map field_value_view (behind_first fs))))
  unfolding check part_then
  fields_first names done fs f some is =
      ap (λ (xs : List FieldValue). changed (spec_in setting) scope names done (field_value_trees (map field_value_view xs))) (first_and_rest fs f some is)
      ∙ ap (λ (v : FieldValueView). changed (spec_in setting) scope names done (field_value_trees (v ∷ map field_value_view (behind_first fs)))) (field_parts f)

  -- ---- binds

  pub binds_none : (found : List LocalForm) (bs : List Bind) (rest : List LocalForm → Checked) → length bs < 1
      → bound_by (spec_in setting) scope found (bind_trees (map bind_view bs)) rest ≡ rest found
  unfolding check
  binds_none found [] rest below = refl
  binds_none found (b ∷ bs) rest below = absurd (omega (arith, below))

  first_bound : (found : List LocalForm) (patterns : PatternTrees) (set : ExprTree) (more : BindTrees) (within : Inside)
      → bound_by (spec_in setting) scope found (one_bind (bind_in patterns set) more) (inside_of setting scope within)
      ≡ bind_check setting scope found patterns set more within
  unfolding check bind_check bound_behind
  first_bound found patterns set more within = λ i.
      after (check (spec_in setting) scope set) (λ (form : FormTree).
      refusing (set_faults (spec_in setting) scope patterns (expr_place set) form)
      (givens_each-listed (spec_in setting) scope patterns
      (bound_by (spec_in setting) scope (bound_in (spec_in setting) scope found patterns form) more (inside_of setting scope within)) i))

  pub binds_first : (found : List LocalForm) (bs : List Bind) (b : Bind) (within : Inside) → 1 ≤ length bs → b ≡ get_or bs 0 b
      → bound_by (spec_in setting) scope found (bind_trees (map bind_view bs)) (inside_of setting scope within)
      ≡ bind_check setting scope found (pattern_trees (pattern_views b.patterns.items)) (view_of b.set.value)
      (bind_trees (map bind_view (behind_first bs))) within
  binds_first found bs b within some is =
      ap (λ (xs : List Bind). bound_by (spec_in setting) scope found (bind_trees (map bind_view xs)) (inside_of setting scope within)) (first_and_rest bs b some is)
      ∙ ap (λ (v : BindTree). bound_by (spec_in setting) scope found (one_bind v (bind_trees (map bind_view (behind_first bs)))) (inside_of setting scope within)) (bind_parts b)
      ∙ first_bound found (pattern_trees (pattern_views b.patterns.items)) (view_of b.set.value) (bind_trees (map bind_view (behind_first bs))) within

  -- ---- definitions

  pub definitions_none : (ds : List Defined) (body : ExprTree) → length ds < 1
      → defined_in (spec_in setting) scope (defined_trees (map defined_view ds)) (let_body setting body) ≡ check (spec_in setting) scope body
  unfolding check let_body
  definitions_none [] body below = refl
  definitions_none (d ∷ ds) body below = absurd (omega (arith, below))

  first_defined : (definition : DefinedView) (more : List DefinedView) (body : ExprTree)
      → defined_in (spec_in setting) scope (defined_trees (definition ∷ more)) (let_body setting body)
      ≡ let_check setting scope definition.value (definition ∷ more) body
  unfolding check let_check defined_behind
  first_defined definition more body = λ i.
      after (check (spec_in setting) scope definition.value) (λ (form : FormTree).
      refusing
      (definition_faults (spec_in setting) scope definition.pattern definition.declared (expr_place definition.value) form)
      (givens-listed (spec_in setting) scope definition.pattern
      (defined_in (spec_in setting)
      (inside_definition (spec_in setting) scope definition.pattern definition.declared form)
      (defined_trees more) (let_body setting body))
      i))

  pub definitions_first : (ds : List Defined) (d : Defined) (body : ExprTree) → 1 ≤ length ds → d ≡ get_or ds 0 d
      → defined_in (spec_in setting) scope (defined_trees (map defined_view ds)) (let_body setting body)
      ≡ let_check setting scope (view_of d.value.value) (map defined_view ds) body
  definitions_first ds d body some is =
      let split : map defined_view ds ≡ defined_view d ∷ map defined_view (behind_first ds) = ap (map defined_view) (first_and_rest ds d some is) in
      ap (λ (vs : List DefinedView). defined_in (spec_in setting) scope (defined_trees vs) (let_body setting body)) split
      ∙ first_defined (defined_view d) (map defined_view (behind_first ds)) body
      ∙ ap (λ (vs : List DefinedView). let_check setting scope (defined_view d).value vs body) (sym split)
      ∙ ap (λ (v : DefinedView). let_check setting scope v.value (map defined_view ds) body) (defined_parts d)

  -- ---- alternatives

  pub branches_last : (known : FormTree) (bs : List Branch) (otherwise : ExprTree) → length bs < 1
      → branches (spec_in setting) scope known (branch_trees (map branch_view bs)) (otherwise_of setting scope otherwise)
      ≡ last_check setting scope known otherwise
  unfolding check otherwise_of
  branches_last known [] otherwise below = refl
  branches_last known (b ∷ bs) otherwise below = absurd (omega (arith, below))

  pub branches_first : (known : FormTree) (bs : List Branch) (b : Branch) (otherwise : ExprTree) → 1 ≤ length bs → b ≡ get_or bs 0 b
      → branches (spec_in setting) scope known (branch_trees (map branch_view bs)) (otherwise_of setting scope otherwise)
      ≡ branch_check setting scope known (view_of b.condition.value) (view_of b.value.value) (branch_trees (map branch_view (behind_first bs))) otherwise
  unfolding check branch_check then_check
  branches_first known bs b otherwise some is =
      ap (λ (xs : List Branch). branches (spec_in setting) scope known (branch_trees (map branch_view xs)) (otherwise_of setting scope otherwise))
      (first_and_rest bs b some is)
      ∙ ap (λ (v : BranchView).
      branches (spec_in setting) scope known (branch_trees (v ∷ map branch_view (behind_first bs))) (otherwise_of setting scope otherwise))
      (branch_parts b)

  pub cases_none : (form known : FormTree) (cs : List Case) (others : MaybeExpr) → length cs < 1
      → cases_check setting scope form known (map case_view cs) others ≡ others_in (spec_in setting) scope known others
  unfolding check cases_check others_of
  cases_none form known [] others below = refl
  cases_none form known (c ∷ cs) others below = absurd (omega (arith, below))

  first_case : (known : FormTree) (case : CaseView) (all : Cases)
      → cases_check setting scope all.form known (case ∷ map case_view all.cases.now) (maybe_view all.others.now)
      ≡ case_check setting scope known case all
  unfolding check cases_check case_check case_behind values_in
  first_case known case all = λ i.
      refusing (patterns_faults (spec_in setting) (type_scope scope) (pattern_trees case.patterns))
      (givens_each-listed (spec_in setting) scope (pattern_trees case.patterns)
      (values_in setting scope known case.value
      (scopes_behind scope (bindings_of (spec_in setting) (type_scope scope) all.form (pattern_trees case.patterns))) all)
      i)

  pub cases_first : (known : FormTree) (cs : List Case) (c : Case) (all : Cases) → cs ≡ c ∷ all.cases.now
      → cases_check setting scope all.form known (map case_view cs) (maybe_view all.others.now)
      ≡ case_check setting scope known (record { patterns = pattern_views c.patterns.items; value = view_of c.value.value }) all
  cases_first known cs c all is =
      ap (λ (xs : List Case). cases_check setting scope all.form known (map case_view xs) (maybe_view all.others.now)) is
      ∙ ap (λ (v : CaseView). cases_check setting scope all.form known (v ∷ map case_view all.cases.now) (maybe_view all.others.now)) (case_parts c)
      ∙ first_case known (record { patterns = pattern_views c.patterns.items; value = view_of c.value.value }) all
