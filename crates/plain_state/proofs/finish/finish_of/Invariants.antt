use Rattle.std.proofs.Common.{◌≡◌, drop}
use Rattle.vdm_legal.specs.Finishes.{finish_of}
use Rattle.plain_state.proofs.finish.finish_of.Given as goal

-- the entries so far decide nothing
abbrev pub invariant-loop-entry : goal.invariant-loop-entry
invariant-loop-entry l = finish_of (drop l.entry-index l.entry-items) ≡ finish_of l.entry-items
