-- The variables of a class that may not be there, and slots in their order.
use Rattle.std.proofs.Common.{◌≡◌, ℕ, List, [], ◌∷◌, Option, Some, None, length, refl, arith}
use Rattle.vdm_kinds.specs.declared.member.VarRef.{VarRef}
use Rattle.vdm_values.specs.declared.slot.Slot.{Slot}
use Rattle.vdm_values.specs.declared.slot.Slot.TheVariants.{Unset}
use Rattle.vdm_legal.specs.State.{slot_among, variables_by}

pub listed-by : (variables : ℕ → List VarRef) (found : Option ℕ) (given : List VarRef) → ((k : ℕ) → found ≡ Some k → given ≡ variables k) → (found ≡ None → given ≡ []) → given ≡ variables_by variables found
listed-by variables None given some none = none refl
listed-by variables (Some k) given some none = some k refl

-- a variable is unset where no slot is left
pub none-left : (var : VarRef) (left : List VarRef) (rest : List Slot) (all : Slot) → length rest ≡ 0 → slot_among var left rest ≡ all → Unset ≡ all
none-left var [] rest all e h = h
none-left var (x ∷ left) [] all e h = h
none-left var (x ∷ left) (slot ∷ rest) all e h = absurd (omega (arith, e))
