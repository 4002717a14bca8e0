-- The code of a slot, by which a proof tells slots apart.
use Rattle.std.specs.Prelude.{◌≡◌, refl, Option, Some, None}
use Rattle.std.specs.Coded.{Coded, code_by, coded_option}
use Rattle.abstract_syntax.specs.Values.{ValueTree}
use Rattle.abstract_syntax.specs.ValueCode.{value_code}
use Rattle.vdm_values.specs.declared.slot.Slot.{Slot}
use Rattle.vdm_values.specs.declared.slot.Slot.TheVariants.{Unset, Held}

-- the value that a slot holds
abbrev pub held_by : Slot → Option ValueTree
held_by Unset = None
held_by (Held v) = Some v

-- the slot that holds it
abbrev pub slot_of : Option ValueTree → Slot
slot_of None = Unset
slot_of (Some v) = Held v

pub slot_of-held_by : (s : Slot) → slot_of (held_by s) ≡ s
slot_of-held_by Unset = refl
slot_of-held_by (Held v) = refl

abbrev pub slot_code : Coded Slot
slot_code = code_by (Option ValueTree) (coded_option value_code) held_by slot_of slot_of-held_by
