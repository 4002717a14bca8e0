-- The check of each kind of statement in which no other stands, by what is refused in it.
use Rattle.std.specs.Prelude.{◌≡◌, not, List, Some, None}
use Rattle.std.proofs.Common.{refl}
use Rattle.vdm_kinds.specs.declared.place.Place.{Place}
use Rattle.vdm_kinds.specs.declared.spec_kind.SpecKind.TheVariants.{NoCommonValue}
use Rattle.abstract_syntax.specs.Expressions.{ExprTree, expr_place}
use Rattle.abstract_syntax.specs.Classes.{SpecTree}
use Rattle.abstract_syntax.specs.Statements.{AssignmentTree, TargetTree, assign, assign_together, call, errs, exits, returns, skips, start_thread, start_threads}
use Rattle.form_meaning.specs.Forms.{FormTree}
use Rattle.class_checks.specs.Expressions.{check}
use Rattle.class_checks.specs.Operators.{any_set}
use Rattle.class_checks.specs.Results.{after, refused_if, refusing}
use Rattle.class_checks.specs.Shapes.{any_or_some}
use Rattle.spec_checks.specs.Statements.{call_faults, check_stmt, done, is_object, returned_faults, wanting}
use Rattle.spec_checks.specs.Targets.{StmtScope, all_assigned, apart_faults, assigned, nothing_owned}

module _ (spec : SpecTree) (scope : StmtScope) where
  pub assign_begun : (target : TargetTree) (value : ExprTree) (place : Place)
      → check_stmt spec scope (assign target value place) ≡ assigned spec scope (record { target = target; value = value }) done
  unfolding check_stmt
  assign_begun target value place = refl

  pub together_begun : (assignments : List AssignmentTree) (place : Place)
      → check_stmt spec scope (assign_together assignments place)
      ≡ refusing (apart_faults spec scope nothing_owned assignments) (all_assigned spec scope assignments done)
  unfolding check_stmt
  together_begun assignments place = refl

  pub call_begun : (application : ExprTree) (place : Place)
      → check_stmt spec scope (call application place)
      ≡ after (check spec scope.within application) (λ (form : FormTree). refusing (call_faults spec scope.returned (expr_place application) form) done)
  unfolding check_stmt
  call_begun application place = refl

  pub return_begun : (value : ExprTree) (place : Place)
      → check_stmt spec scope (returns (Some value) place)
      ≡ after (check spec scope.within value) (λ (form : FormTree). refusing (returned_faults spec scope.returned (expr_place value) form) done)
  unfolding check_stmt
  return_begun value place = refl

  pub return_of_none : (place : Place) → check_stmt spec scope (returns None place) ≡ done
  unfolding check_stmt
  return_of_none place = refl

  pub exit_begun : (value : ExprTree) (place : Place)
      → check_stmt spec scope (exits (Some value) place) ≡ after (check spec scope.within value) (λ (form : FormTree). done)
  unfolding check_stmt
  exit_begun value place = refl

  pub exit_of_none : (place : Place) → check_stmt spec scope (exits None place) ≡ done
  unfolding check_stmt
  exit_of_none place = refl

  pub start_begun : (object : ExprTree) (place : Place)
      → check_stmt spec scope (start_thread object place)
      ≡ after (check spec scope.within object) (λ (form : FormTree). refusing (refused_if (not (any_or_some is_object form)) NoCommonValue (expr_place object)) done)
  unfolding check_stmt
  start_begun object place = refl

  pub start_list_begun : (objects : ExprTree) (place : Place)
      → check_stmt spec scope (start_threads objects place) ≡ wanting spec scope any_set objects done
  unfolding check_stmt
  start_list_begun objects place = refl

  pub skip_begun : (place : Place) → check_stmt spec scope (skips place) ≡ done
  unfolding check_stmt
  skip_begun place = refl

  pub error_begun : (place : Place) → check_stmt spec scope (errs place) ≡ done
  unfolding check_stmt
  error_begun place = refl
