-- What is checked of a part with the place that it has.
use Rattle.std.specs.Prelude.{◌≡◌, List}
use Rattle.std.proofs.Common.{ap, sym}
use Rattle.vdm_kinds.specs.declared.place.Place.{Place}
use Rattle.abstract_syntax.specs.Expressions.{BindTrees, BranchTrees, ExprTree, PatternTrees, expr_place, given_expr}
use Rattle.expr_tree.specs.View.{DefinedView}
use Rattle.form_meaning.specs.Forms.{FormTree}
use Rattle.class_checks.specs.Expressions.{check, want_faults, where_true}
use Rattle.class_checks.specs.Operators.{truth}
use Rattle.class_checks.specs.Results.{Checked, after, refusing}
use Rattle.class_checks.specs.Scopes.{LocalForm, ScopeTree}
use Rattle.class_checks.specs.Shapes.{Seen, ShapeTree}
use Rattle.check_calls.specs.Below.check_scopes.specs.Told.{spec_in}
use Rattle.check_calls.specs.Below.check_scopes.specs.declared.setting.Setting.{Setting}
use Rattle.check_frames.specs.Meant.{
  bind_behind,
  bind_check,
  branch_check,
  definitions_behind,
  let_check,
  part_check,
  part_seen,
  part_then,
  then_check,
}
use Rattle.check_frames.specs.declared.inside.Inside.{Inside}
use Rattle.check_frames.specs.declared.rest.Rest.{Rest}

module _ (setting : Setting) (scope : ScopeTree) where
  pub part_at : (shape : ShapeTree) (done : List Seen) (e : ExprTree) (rest : Rest) (place : Place) → place ≡ expr_place e
      → part_check setting scope shape done e rest
      ≡ after (check (spec_in setting) scope e) (part_seen setting scope shape done place rest)
  unfolding part_then
  part_at shape done e rest place is =
      ap (λ (p : Place). after (check (spec_in setting) scope e) (part_seen setting scope shape done p rest)) (sym is)

  pub condition_at : (e : ExprTree) (body : Checked) (place : Place) → place ≡ expr_place e
      → where_true (spec_in setting) scope (given_expr e) body
      ≡ after (check (spec_in setting) scope e) (λ (form : FormTree). refusing (want_faults (spec_in setting) truth place form) body)
  unfolding check
  condition_at e body place is =
      ap (λ (p : Place).
      after (check (spec_in setting) scope e) (λ (form : FormTree). refusing (want_faults (spec_in setting) truth p form) body)) (sym is)

  pub set_at : (found : List LocalForm) (patterns : PatternTrees) (set : ExprTree) (more : BindTrees) (within : Inside) (place : Place)
      → place ≡ expr_place set
      → bind_check setting scope found patterns set more within
      ≡ after (check (spec_in setting) scope set) (bind_behind setting scope found patterns place more within)
  unfolding bind_check
  set_at found patterns set more within place is =
      ap (λ (p : Place). after (check (spec_in setting) scope set) (bind_behind setting scope found patterns p more within)) (sym is)

  pub value_at : (value : ExprTree) (definitions : List DefinedView) (body : ExprTree) (place : Place) → place ≡ expr_place value
      → let_check setting scope value definitions body
      ≡ after (check (spec_in setting) scope value) (definitions_behind setting scope definitions place body)
  unfolding let_check
  value_at value definitions body place is =
      ap (λ (p : Place). after (check (spec_in setting) scope value) (definitions_behind setting scope definitions p body)) (sym is)

  pub branch_at : (known : FormTree) (condition value : ExprTree) (rest : BranchTrees) (otherwise : ExprTree) (place : Place)
      → place ≡ expr_place condition
      → branch_check setting scope known condition value rest otherwise
      ≡ after (check (spec_in setting) scope condition) (λ (form : FormTree).
      refusing (want_faults (spec_in setting) truth place form) (then_check setting scope known value rest otherwise))
  unfolding branch_check
  branch_at known condition value rest otherwise place is =
      ap (λ (p : Place).
      after (check (spec_in setting) scope condition) (λ (form : FormTree).
      refusing (want_faults (spec_in setting) truth p form) (then_check setting scope known value rest otherwise))) (sym is)
