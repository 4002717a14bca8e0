use Rattle.std.proofs.Common.{arith}
use Rattle.vdm_values.proofs.Parts.{nodes_of-item, nodes_of-pair, depth_of-more, depth_of-pair_more}
use Rattle.vdm_sets.proofs.size.+depth.Goals as goal

pub depth_of_items-depth-requires : goal.depth_of_items-depth-requires
depth_of_items-depth-requires t c = (omega (arith, nodes_of-item _ _ _ c.item-item.is c.loop-item-test.true), tt)

pub depth_of_items-loop-item-preserved : goal.depth_of_items-loop-item-preserved
depth_of_items-loop-item-preserved t c = omega (arith, depth_of-more _ _ _ c.item-item.is c.loop-item-test.true)

pub depth_of_entries-depth-requires : goal.depth_of_entries-depth-requires
depth_of_entries-depth-requires t c = (omega (arith, nodes_of-pair _ _ _ c.loop-key-item.is c.loop-key-test.true), tt)

pub depth_of_entries-depth-requires-in-loop-key : goal.depth_of_entries-depth-requires-in-loop-key
depth_of_entries-depth-requires-in-loop-key t c = (omega (arith, nodes_of-pair _ _ _ c.loop-key-item.is c.loop-key-test.true), tt)

pub depth_of_entries-loop-key-preserved : goal.depth_of_entries-loop-key-preserved
depth_of_entries-loop-key-preserved t c = omega (arith, depth_of-pair_more _ _ _ c.loop-key-item.is c.loop-key-test.true)
