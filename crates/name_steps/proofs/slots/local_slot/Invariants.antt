use Rattle.std.proofs.Common.{◌≡◌, take, reverse}
use Rattle.std.specs.List.{find}
use Rattle.vdm_kinds.specs.declared.name.Name.{Name}
use Rattle.vdm_values.specs.declared.slot.Slot.{Slot}
use Rattle.abstract_syntax.specs.Classes.{is_same_name}
use Rattle.name_steps.proofs.slots.local_slot.Given as goal

-- the newest of the first so many is the newest of all
abbrev pub invariant-loop-index : goal.invariant-loop-index
invariant-loop-index l =
    find (λ (v : Name × Slot). is_same_name l.name v.0) (reverse (take l.index l.locals)) ≡
    find (λ (v : Name × Slot). is_same_name l.name v.0) (reverse l.locals)
