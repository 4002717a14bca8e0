use Rattle.std.proofs.Common.{◌≡◌, take, true, map}
use Rattle.std.specs.List.{list_all, flat_map}
use Rattle.value_operators.specs.Maps.{is_map, pairs_of}
use Rattle.map_ops.proofs.joining.all_pairs.Given as goal

abbrev pub invariant-loop-map : goal.invariant-loop-map
invariant-loop-map l = record {
  maps : list_all is_map (take l.map-index l.maps) ≡ true;
  whole : l.pairs.items ≡ flat_map (λ ps. ps) (map pairs_of (take l.map-index l.maps));
}
