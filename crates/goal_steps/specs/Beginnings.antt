-- An assignment that is to begin.
use Rattle.std.specs.Prelude.{◌≡◌, List, []}
use Rattle.std.specs.Borrow.{Bor}
use Rattle.vdm_kinds.specs.declared.place.Place.{Place}
use Rattle.vdm_tree.specs.declared.target.TargetStep.{TargetStep}
use Rattle.eval_data.specs.declared.here.Here.{Here}
use Rattle.step_data.specs.declared.assigning.Assigning.{Assigning}
use Rattle.step_data.specs.declared.assigning.Kept.{Kept}
use Rattle.step_data.specs.declared.goal.Goal.{Goal}

-- it has these parts, and no value came yet
pub record Begun (a : Assigning) (h : Here) (p : Place) (g : Goal) (s : Bor (List TargetStep)) (k : Kept) : Type 0 where
  pub here : a.here ≡ h
  pub place : a.place ≡ p
  pub goal : a.goal ≡ g
  pub steps : a.steps ≡ s
  pub done : a.done.items ≡ []
  pub kept : a.kept ≡ k
