use Rattle.std.proofs.Common.{◌≡◌, take}
use Rattle.value_operators.specs.Maps.{values}
use Rattle.map_ops.proofs.projection.values.Given as goal

abbrev pub invariant-loop-pair : goal.invariant-loop-pair
invariant-loop-pair l = l.values.items ≡ values (take l.pair-index l.pairs)
