use Rattle.std.proofs.Common.{◌≡◌, length}
use Rattle.vdm_legal.specs.State.{written_in}
use Rattle.plain_state.proofs.writes.written_in.Given as goal

-- the pairs that were passed are of other variables
abbrev pub invariant-loop-pair : goal.invariant-loop-pair
invariant-loop-pair l = written_in l.var l.before ≡ written_in l.var l.pairs

abbrev pub decreases-loop-pair : goal.decreases-loop-pair
decreases-loop-pair l = length l.before
