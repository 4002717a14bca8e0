use Rattle.std.proofs.Common.{◌≡◌, drop}
use Rattle.std.specs.List.{find}
use Rattle.vdm_kinds.specs.declared.member.VarRef.{VarRef}
use Rattle.vdm_values.specs.declared.slot.Slot.{Slot}
use Rattle.class_meaning.specs.Laws.{is_same_variable}
use Rattle.name_steps.proofs.slots.held_slot.Given as goal

-- the first of those that are left is the first of all
abbrev pub invariant-loop-entry : goal.invariant-loop-entry
invariant-loop-entry l =
    find (λ (v : VarRef × Slot). is_same_variable l.variable v.0) (drop l.entry-index l.entry-items) ≡
    find (λ (v : VarRef × Slot). is_same_variable l.variable v.0) l.held.variables.items
