use Rattle.std.proofs.Common.{◌≡◌, ◌++◌, length, reverse}
use Rattle.node_meaning.specs.Strict.{pairs_in}
use Rattle.value_steps.proofs.pairs.pairs_of.Given as goal

abbrev pub invariant-loop-pair : goal.invariant-loop-pair
invariant-loop-pair l = l.pairs.items ++ pairs_in (reverse l.values.items) ≡ pairs_in l.fn.values.items

abbrev pub decreases-loop-pair : goal.decreases-loop-pair
decreases-loop-pair l = length l.values.items
