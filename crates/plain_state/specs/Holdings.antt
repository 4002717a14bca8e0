-- What a variable holds, by where it stands among the entries.
use Rattle.std.specs.Prelude.{Option, Some, None}
use Rattle.vdm_values.specs.declared.slot.Slot.{Slot}
use Rattle.vdm_values.specs.declared.slot.Slot.TheVariants.{Unset, Held}
use Rattle.plain_state.specs.declared.state.Holding.{Holding}
use Rattle.plain_state.specs.declared.state.Holding.TheVariants.{Written, Made, Nothing}

abbrev pub held_slot : Holding → Slot
held_slot (Written value) = Held value.now
held_slot (Made slot) = slot.now
held_slot Nothing = Unset

-- a slot that was not given is unset
abbrev pub slot_given : Option Slot → Slot
slot_given None = Unset
slot_given (Some slot) = slot
