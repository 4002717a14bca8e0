use Rattle.std.proofs.Common.{◌≡◌, take}
use Rattle.value_operators.specs.Maps.{keys}
use Rattle.map_ops.proofs.projection.keys.Given as goal

abbrev pub invariant-loop-pair : goal.invariant-loop-pair
invariant-loop-pair l = l.keys.items ≡ keys (take l.pair-index l.pairs)
