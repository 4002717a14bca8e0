-- Assignments, one behind the other, and what is refused of several at once.
use Rattle.std.specs.Prelude.{◌≡◌, not, List, [], ◌∷◌, Option, map}
use Rattle.std.proofs.Common.{ℕ, ◌+◌, ◌<◌, length, get_or, drop, ap, sym, ◌∙◌}
use Rattle.std.proofs.lemmas.List.{drop_more}
use Rattle.vdm_kinds.specs.declared.place.Place.{Place}
use Rattle.vdm_kinds.specs.declared.spec_fault.SpecFault.{SpecFault}
use Rattle.vdm_kinds.specs.declared.spec_kind.SpecKind.TheVariants.{LeftOut, NoCommonValue}
use Rattle.abstract_syntax.specs.Expressions.{expr_place}
use Rattle.abstract_syntax.specs.Classes.{SpecTree}
use Rattle.abstract_syntax.specs.Statements.{AssignmentTree, TargetStepTree, TargetTree, element_at, field_of, target_place}
use Rattle.form_meaning.specs.Forms.{FormTree}
use Rattle.form_meaning.specs.Parts.{taken}
use Rattle.class_checks.specs.Callees.{key_want, looked_up}
use Rattle.class_checks.specs.Expressions.{check, want_faults}
use Rattle.class_checks.specs.Operators.{sequence_or_map}
use Rattle.class_checks.specs.Results.{Checked, after, first_among, refused_if, refusing}
use Rattle.class_checks.specs.Shapes.{any_or_some}
use Rattle.spec_checks.specs.Statements.{done, wanting}
use Rattle.spec_checks.specs.Targets.{Owned, StmtScope, all_assigned, apart_faults, assigned, field_taken, first_owned, has_this_field, is_apart, stepped, steps_in, target_steps, written}
use Rattle.vdm_tree.specs.StmtView.{assignment_view, target_view}
use Rattle.vdm_tree.specs.declared.target.Assignment.{Assignment}
use Rattle.target_steps.specs.Below.check_scopes.specs.Told.{first_among-++}
use Rattle.target_steps.specs.Below.stmt_scopes.specs.Before.{IsBefore, before-after, before-refusing, before-wanting, refused_before}
use Rattle.target_steps.specs.Below.stmt_scopes.specs.Refused.{refused}

module _ (spec : SpecTree) (scope : StmtScope) where
  -- ---- what is refused in an assignment comes before the rest

  before-steps : (place : Place) (form : FormTree) (steps : List TargetStepTree) (part : FormTree → Checked → Checked)
      → ((found : FormTree) → IsBefore (part found))
      → IsBefore (λ (rest : Checked). steps_in spec scope place form steps (λ (found : FormTree). part found rest))
  before-steps place form [] part is = is form
  before-steps place form (field_of name name_place step_place ∷ steps) part is =
      before-refusing (refused_if (not (any_or_some (has_this_field spec name) form)) NoCommonValue place)
      (λ (rest : Checked).
      steps_in spec scope place (stepped spec (any_or_some (has_this_field spec name) form) (taken (field_taken spec name) form)) steps
      (λ (found : FormTree). part found rest))
      (before-steps place (stepped spec (any_or_some (has_this_field spec name) form) (taken (field_taken spec name) form)) steps part is)
  before-steps place form (element_at index step_place ∷ steps) part is =
      before-refusing (want_faults spec sequence_or_map place form)
      (λ (rest : Checked). after (check spec scope.within index) (λ (key : FormTree).
      refusing (want_faults spec (key_want spec form) (expr_place index) key)
      (steps_in spec scope place (looked_up spec form) steps (λ (found : FormTree). part found rest))))
      (before-after (check spec scope.within index)
      (λ (key : FormTree) (rest : Checked). refusing (want_faults spec (key_want spec form) (expr_place index) key)
      (steps_in spec scope place (looked_up spec form) steps (λ (found : FormTree). part found rest)))
      (λ key. before-refusing (want_faults spec (key_want spec form) (expr_place index) key)
      (λ (rest : Checked). steps_in spec scope place (looked_up spec form) steps (λ (found : FormTree). part found rest))
      (before-steps place (looked_up spec form) steps part is)))

  pub before-assigned : (assignment : AssignmentTree) → IsBefore (assigned spec scope assignment)
  before-assigned assignment =
      before-refusing (written spec scope assignment.target).refusals
      (λ (rest : Checked).
      steps_in spec scope (target_place assignment.target) (written spec scope assignment.target).form (target_steps assignment.target)
      (λ (form : FormTree). wanting spec scope form assignment.value rest))
      (before-steps (target_place assignment.target) (written spec scope assignment.target).form (target_steps assignment.target)
      (λ (form : FormTree). wanting spec scope form assignment.value)
      (λ form. before-wanting spec scope form assignment.value))

  -- ---- one behind the other

  pub assigned_turn : (xs : List Assignment) (i : ℕ) (x : Assignment) (before later whole : Option SpecFault) → x ≡ get_or xs i x → i < length xs
      → later ≡ first_among before (assigned spec scope (assignment_view x) done).refusals
      → first_among before (all_assigned spec scope (map assignment_view (drop i xs)) done).refusals ≡ whole
      → first_among later (all_assigned spec scope (map assignment_view (drop (i + 1) xs)) done).refusals ≡ whole
  assigned_turn xs i x before later whole is below told so_far =
      let left : Checked = all_assigned spec scope (map assignment_view (drop (i + 1) xs)) done in
      sym (refused_before (assigned spec scope (assignment_view x)) (before-assigned (assignment_view x)) before later left told)
      ∙ ap (λ (y : Assignment). refused before (assigned spec scope (assignment_view y) left)) is
      ∙ ap (λ (ys : List Assignment). refused before (all_assigned spec scope (map assignment_view ys) done)) (sym (drop_more xs i x below))
      ∙ so_far

  -- the first that is of the object or of a class, and what is refused beside it
  pub apart_turn : (xs : List Assignment) (i : ℕ) (x : Assignment) (first next : Owned) (before later whole : Option SpecFault)
      → x ≡ get_or xs i x → i < length xs
      → later ≡ first_among before (refused_if (is_apart first (written spec scope (target_view x.target)).owned) LeftOut (target_place (target_view x.target)))
      → next ≡ first_owned first (written spec scope (target_view x.target)).owned
      → first_among before (apart_faults spec scope first (map assignment_view (drop i xs))) ≡ whole
      → first_among later (apart_faults spec scope next (map assignment_view (drop (i + 1) xs))) ≡ whole
  apart_turn xs i x first next before later whole is below told decides so_far =
      let left : List AssignmentTree = map assignment_view (drop (i + 1) xs) in
      let target : TargetTree = target_view x.target in
      let faults : List SpecFault = refused_if (is_apart first (written spec scope target).owned) LeftOut (target_place target) in
      (λ j. first_among (told j) (apart_faults spec scope (decides j) left))
      ∙ sym (first_among-++ before faults (apart_faults spec scope (first_owned first (written spec scope target).owned) left))
      ∙ ap (λ (y : Assignment). first_among before (apart_faults spec scope first (assignment_view y ∷ left))) is
      ∙ ap (λ (ys : List Assignment). first_among before (apart_faults spec scope first (map assignment_view ys))) (sym (drop_more xs i x below))
      ∙ so_far
