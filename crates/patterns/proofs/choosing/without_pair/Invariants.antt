use Rattle.std.proofs.Common.{◌≡◌, ◌+◌, ◌++◌, take, drop}
use Rattle.patterns.proofs.choosing.without_pair.Given as goal

-- those so far, but for the one of the index
abbrev pub invariant-loop-i : goal.invariant-loop-i
invariant-loop-i l = l.left.items ≡ take l.index (take l.i l.pairs) ++ drop (l.index + 1) (take l.i l.pairs)
