use Rattle.std.proofs.Common.{◌++◌, sym, ◌∙◌}
use Rattle.value_operators.specs.Maps.{is_map, pairs_of}
use Rattle.value_results.proofs.Operands.{all_more, gathered_more, is_map_is, pairs_is}
use Rattle.map_ops.proofs.joining.all_pairs.Goals as goal

pub loop-map-preserved : goal.loop-map-preserved
loop-map-preserved c = record {
  maps = all_more is_map pairs_of c.args.maps.now c.loop-map.map-index _ c.loop-map-test.true c.map-item.is c.loop-map.invariant.maps
      (is_map_is _ c.node.result.now c.in-Map.others c.node.ensures.tree c.in-Map.is);
  whole = c.in_ok-push_pairs.ensures
      ∙ (λ i. c.loop-map.invariant.whole i ++ (c.as_slice.ensures.value ∙ sym (pairs_is _ c.node.result.now c.in-Map.others c.node.ensures.tree c.in-Map.is)) i)
      ∙ sym (gathered_more is_map pairs_of c.args.maps.now c.loop-map.map-index _ c.loop-map-test.true c.map-item.is);
}
