use Rattle.std.proofs.Common.{◌≡◌, take}
use Rattle.patterns.specs.Todos.{at}
use Rattle.patterns.proofs.open.each_pair.Given as goal

-- those so far
abbrev pub invariant-loop-pair : goal.invariant-loop-pair
invariant-loop-pair l = at l.references.items ≡ take l.pair-index l.pairs
