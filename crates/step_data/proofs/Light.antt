-- Steps that need something.
use Rattle.std.proofs.Common.{◌≡◌}
use Rattle.vdm_kinds.specs.declared.place.Place.{Place}
use Rattle.eval_data.specs.declared.frame.After.{After}
use Rattle.eval_data.specs.declared.need.Need.{Need}
use Rattle.eval_data.specs.declared.step.Step.{Step}
use Rattle.eval_data.specs.declared.step.Step.TheVariants.{Need as NeedStep}
use Rattle.eval_data.specs.Steps.{IsLight}

-- none of them is light
pub needs-not-light : (s : Step) (need : Need) (place : Place) (after : After) → s ≡ NeedStep need place after → IsLight s → ⊥
needs-not-light s need place after e = rw e (λ light. light)
