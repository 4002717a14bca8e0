use Rattle.std.proofs.Common.{◌≡◌, length}
use Rattle.run_journal.specs.Parts.{object_part}
use Rattle.vdm_legal.specs.State.{last_written}
use Rattle.plain_state.proofs.writes.last_written.Given as goal

-- the entries that were passed write nothing to the variable of the object
abbrev pub invariant-loop-last : goal.invariant-loop-last
invariant-loop-last l = last_written l.var (object_part l.object l.before) ≡ last_written l.var (object_part l.object l.entries)

abbrev pub decreases-loop-last : goal.decreases-loop-last
decreases-loop-last l = length l.before
