use Rattle.std.proofs.Common.{◌≡◌, ◌+◌, ◌*◌, take, min}
use Rattle.abstract_syntax.specs.Values.{nodes_of, nodes_of_values, nodes_of_pairs, value_trees, pair_trees}
use Rattle.vdm_sets.proofs.size.+nodes.Given as goal

abbrev pub decreases-nodes : goal.decreases-nodes
decreases-nodes l = 2 * nodes_of l.v.now

abbrev pub decreases-nodes_of_items : goal.decreases-nodes_of_items
decreases-nodes_of_items l = 2 * nodes_of_values (value_trees l.items.now) + 1

abbrev pub decreases-nodes_of_entries : goal.decreases-nodes_of_entries
decreases-nodes_of_entries l = 2 * nodes_of_pairs (pair_trees l.pairs.now) + 1

abbrev pub invariant-nodes_of_items-loop-item : goal.invariant-nodes_of_items-loop-item
invariant-nodes_of_items-loop-item l = l.total ≡ min (nodes_of_values (value_trees (take l.item-index l.items))) 18446744073709551615

abbrev pub invariant-nodes_of_entries-loop-key : goal.invariant-nodes_of_entries-loop-key
invariant-nodes_of_entries-loop-key l = l.total ≡ min (nodes_of_pairs (pair_trees (take l.key-index l.pairs))) 18446744073709551615
