-- The steps of a target, one behind the other.
use Rattle.std.specs.Prelude.{◌≡◌, List, [], ◌∷◌, Option}
use Rattle.std.proofs.Common.{refl, ap, sym, ◌∙◌}
use Rattle.vdm_kinds.specs.declared.place.Place.{Place}
use Rattle.vdm_kinds.specs.declared.spec_fault.SpecFault.{SpecFault}
use Rattle.abstract_syntax.specs.Expressions.{ExprTree}
use Rattle.abstract_syntax.specs.Classes.{SpecTree}
use Rattle.abstract_syntax.specs.Statements.{TargetStepTree, element_at, field_of}
use Rattle.form_meaning.specs.Forms.{FormTree}
use Rattle.class_checks.specs.Callees.{key_want, looked_up}
use Rattle.class_checks.specs.Expressions.{want_faults}
use Rattle.class_checks.specs.Operators.{sequence_or_map}
use Rattle.class_checks.specs.Results.{Checked, first_among, refusing}
use Rattle.spec_checks.specs.Statements.{done, wanting}
use Rattle.spec_checks.specs.Targets.{StmtScope, steps_in}
use Rattle.stmt_exprs.specs.Below.stmt_scopes.specs.Before.{before-wanting, refused_before}
use Rattle.stmt_exprs.specs.Below.stmt_scopes.specs.Refused.{refused, refused_refusing}

module _ (spec : SpecTree) (scope : StmtScope) (place : Place) where
  pub steps_first : (form : FormTree) (step : TargetStepTree) (steps : List TargetStepTree) (rest : FormTree → Checked)
      → steps_in spec scope place form (step ∷ steps) rest
      ≡ steps_in spec scope place form (step ∷ []) (λ (found : FormTree). steps_in spec scope place found steps rest)
  steps_first form (field_of name name_place step_place) steps rest = refl
  steps_first form (element_at index step_place) steps rest = refl

  pub element_begun : (form : FormTree) (index : ExprTree) (step_place : Place) (rest : FormTree → Checked)
      → steps_in spec scope place form (element_at index step_place ∷ []) rest
      ≡ refusing (want_faults spec sequence_or_map place form) (wanting spec scope (key_want spec form) index (rest (looked_up spec form)))
  element_begun form index step_place rest = refl

  -- what is told of a step to an element, and of the rest behind it
  pub element_told : (form : FormTree) (index : ExprTree) (step_place : Place) (wanted found : FormTree) (first fitted later : Option SpecFault)
      (rest : FormTree → Checked)
      → fitted ≡ first_among first (want_faults spec sequence_or_map place form) → wanted ≡ key_want spec form
      → later ≡ first_among fitted (wanting spec scope wanted index done).refusals → found ≡ looked_up spec form
      → refused first (steps_in spec scope place form (element_at index step_place ∷ []) rest) ≡ refused later (rest found)
  element_told form index step_place wanted found first fitted later rest fits is noted known =
      ap (refused first) (element_begun form index step_place rest)
      ∙ refused_refusing first fitted (want_faults spec sequence_or_map place form) (wanting spec scope (key_want spec form) index (rest (looked_up spec form))) fits
      ∙ ap (λ (w : FormTree). refused fitted (wanting spec scope w index (rest (looked_up spec form)))) (sym is)
      ∙ refused_before (wanting spec scope wanted index) (before-wanting spec scope wanted index) fitted later (rest (looked_up spec form)) noted
      ∙ ap (λ (f : FormTree). refused later (rest f)) (sym known)
