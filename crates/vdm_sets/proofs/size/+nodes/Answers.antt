use Rattle.std.proofs.Common.{arith}
use Rattle.vdm_values.proofs.Parts.{nodes_of-item, nodes_of-pair, nodes_of-more, nodes_of-pair_more}
use Rattle.vdm_sets.proofs.size.+nodes.Goals as goal

pub nodes_of_items-nodes-requires : goal.nodes_of_items-nodes-requires
nodes_of_items-nodes-requires t c = (omega (arith, nodes_of-item _ _ _ c.item-item.is c.loop-item-test.true), tt)

pub nodes_of_items-loop-item-preserved : goal.nodes_of_items-loop-item-preserved
nodes_of_items-loop-item-preserved t c = omega (arith, nodes_of-more _ _ _ c.item-item.is c.loop-item-test.true)

pub nodes_of_entries-nodes-requires : goal.nodes_of_entries-nodes-requires
nodes_of_entries-nodes-requires t c = (omega (arith, nodes_of-pair _ _ _ c.loop-key-item.is c.loop-key-test.true), tt)

pub nodes_of_entries-nodes-requires-in-loop-key : goal.nodes_of_entries-nodes-requires-in-loop-key
nodes_of_entries-nodes-requires-in-loop-key t c = (omega (arith, nodes_of-pair _ _ _ c.loop-key-item.is c.loop-key-test.true), tt)

pub nodes_of_entries-loop-key-preserved : goal.nodes_of_entries-loop-key-preserved
nodes_of_entries-loop-key-preserved t c = omega (arith, nodes_of-pair_more _ _ _ c.loop-key-item.is c.loop-key-test.true)
