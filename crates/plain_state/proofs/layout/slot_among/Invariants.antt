use Rattle.std.proofs.Common.{◌≡◌, drop}
use Rattle.vdm_legal.specs.State.{slot_among}
use Rattle.plain_state.proofs.layout.slot_among.Given as goal

-- the variables that were passed are others
abbrev pub invariant-loop-other : goal.invariant-loop-other
invariant-loop-other l = slot_among l.var (drop l.other-index l.variables) l.rest ≡ slot_among l.var l.variables l.slots
