use Rattle.std.proofs.Common.{◌≡◌, take}
use Rattle.vdm_values.proofs.slot_list.copy_slots.Given as goal

abbrev pub invariant-loop-slot : goal.invariant-loop-slot
invariant-loop-slot l = l.copies.items ≡ take l.slot-index l.slots
