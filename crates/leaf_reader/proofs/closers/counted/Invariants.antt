use Rattle.leaf_reader.proofs.Closing.{Counted}
use Rattle.leaf_reader.proofs.closers.counted.Given as goal

-- the first so many tokens are counted
abbrev pub invariant-loop-token : goal.invariant-loop-token
invariant-loop-token l = Counted l.counts.items l.items l.token-index
