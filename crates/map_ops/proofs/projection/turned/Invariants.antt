use Rattle.std.proofs.Common.{◌≡◌, take}
use Rattle.value_operators.specs.Maps.{turned}
use Rattle.map_ops.proofs.projection.turned.Given as goal

abbrev pub invariant-loop-pair : goal.invariant-loop-pair
invariant-loop-pair l = l.turned.items ≡ turned (take l.pair-index l.pairs)
