use Rattle.std.proofs.Common.{◌≡◌, take, true, map}
use Rattle.std.specs.List.{list_all}
use Rattle.value_operators.specs.Maps.{through, leads_on}
use Rattle.map_ops.proofs.composition.composed.Given as goal

abbrev pub invariant-loop-pair : goal.invariant-loop-pair
invariant-loop-pair l = record {
  keys : list_all (leads_on l.a) (take l.pair-index l.b) ≡ true;
  whole : l.pairs.items ≡ map (through l.a) (take l.pair-index l.b);
}
