-- What stands behind patterns, under conditions and in scopes that are left, by what comes first of it.
use Rattle.std.specs.Prelude.{◌≡◌, List, [], ◌∷◌, drop, map}
use Rattle.std.proofs.Common.{ap, refl, sym}
use Rattle.abstract_syntax.specs.Expressions.{BranchTrees, ExprTree, given_expr, left_out}
use Rattle.expr_tree.specs.View.{CaseView, pattern_trees, view_of}
use Rattle.expr_tree.specs.declared.expr.Expr.{Expr}
use Rattle.form_meaning.specs.Forms.{FormTree, joined}
use Rattle.class_checks.specs.Expressions.{branches, check, others_in, where_true}
use Rattle.class_checks.specs.Patterns.{patterns_faults}
use Rattle.class_checks.specs.Results.{Checked, after, gives, refusing}
use Rattle.class_checks.specs.Scopes.{Locals, ScopeTree, type_scope}
use Rattle.check_calls.specs.Below.check_scopes.specs.Told.{scope_at, spec_in}
use Rattle.check_calls.specs.Below.check_scopes.specs.declared.setting.Setting.{Setting}
use Rattle.check_frames.specs.Meant.{
  after_check,
  at,
  boxed,
  case_behind,
  case_check,
  cases_left,
  given_check,
  givens_check,
  last_check,
  let_body,
  otherwise_of,
  then_check,
  value_check,
  values_check,
  values_in,
}
use Rattle.check_frames.specs.declared.after.After.{After}
use Rattle.check_frames.specs.declared.cases.CaseValues.{CaseValues}
use Rattle.check_frames.specs.declared.cases.Cases.{Cases}

module _ (setting : Setting) (scope : ScopeTree) where
  pub body_begun : (body : ExprTree) → let_body setting body scope ≡ check (spec_in setting) scope body
  unfolding let_body
  body_begun body = refl

  pub no_condition : (rest : Checked) → where_true (spec_in setting) scope left_out rest ≡ rest
  unfolding check
  no_condition rest = refl

  -- ---- expressions in brackets in patterns

  pub no_givens : (es : List ExprTree) (behind : After) → es ≡ [] → givens_check setting scope es behind ≡ after_check setting behind
  unfolding givens_check
  no_givens es behind is = ap (λ (given : List ExprTree). givens_check setting scope given behind) is

  pub first_given : (es : List ExprTree) (e : ExprTree) (more : List ExprTree) (behind : After) → es ≡ e ∷ more
      → givens_check setting scope es behind ≡ given_check setting scope e more behind
  unfolding givens_check given_check
  first_given es e more behind is = ap (λ (given : List ExprTree). givens_check setting scope given behind) is

  pub given_begun : (e : ExprTree) (more : List ExprTree) (behind : After)
      → given_check setting scope e more behind
      ≡ after (check (spec_in setting) scope e) (λ (form : FormTree). givens_check setting scope more behind)
  unfolding given_check
  given_begun e more behind = refl

  -- ---- alternatives

  pub no_others : (known : FormTree) → others_in (spec_in setting) scope known left_out ≡ gives known
  unfolding check
  no_others known = refl

  pub others_begun : (known : FormTree) (e : ExprTree)
      → others_in (spec_in setting) scope known (given_expr e) ≡ last_check setting scope known e
  unfolding check last_check
  others_begun known e = refl

  pub last_begun : (known : FormTree) (e : ExprTree)
      → last_check setting scope known e ≡ after (check (spec_in setting) scope e) (λ (form : FormTree). gives (joined known form))
  unfolding last_check
  last_begun known e = refl

  pub then_begun : (known : FormTree) (value : ExprTree) (rest : BranchTrees) (otherwise : ExprTree)
      → then_check setting scope known value rest otherwise
      ≡ after (check (spec_in setting) scope value) (λ (other : FormTree).
      branches (spec_in setting) scope (joined known other) rest (otherwise_of setting scope otherwise))
  unfolding then_check
  then_begun known value rest otherwise = refl

  pub case_begun : (known : FormTree) (case : CaseView) (all : Cases)
      → case_check setting scope known case all
      ≡ refusing (patterns_faults (spec_in setting) (type_scope scope) (pattern_trees case.patterns)) (case_behind setting scope known case all)
  unfolding case_check
  case_begun known case all = refl

  -- ---- what stands behind patterns, in scopes that are left

  pub no_values : (known : FormTree) (value : ExprTree) (scopes : List ScopeTree) (all : Cases) → scopes ≡ []
      → values_in setting scope known value scopes all ≡ cases_left setting scope known all
  unfolding values_in
  no_values known value scopes all is = ap (λ (ws : List ScopeTree). values_in setting scope known value ws all) is

  pub first_value : (known : FormTree) (scopes : List ScopeTree) (within : ScopeTree) (values : CaseValues)
      → scopes ≡ within ∷ drop values.next (map (at setting) values.scopes.items)
      → values_in setting scope known (boxed values.value) scopes values.all ≡ value_check setting scope known within values
  unfolding values_in value_check
  first_value known scopes within values is =
      ap (λ (ws : List ScopeTree). values_in setting scope known (boxed values.value) ws values.all) is

pub value_begun : (setting : Setting) (locals names : Locals) (known : FormTree) (within : ScopeTree) (values : CaseValues) (e : Expr)
    → names ≡ locals → e ≡ values.value.now.value
    → value_check setting (scope_at setting locals) known within values
    ≡ after (check (spec_in setting) within (view_of e)) (λ (other : FormTree).
    values_check setting (scope_at setting names) (joined known other) values)
unfolding value_check
value_begun setting locals names known within values e same is = λ i.
    after (check (spec_in setting) within (view_of (sym is i))) (λ (other : FormTree).
    values_check setting (scope_at setting (sym same i)) (joined known other) values)
