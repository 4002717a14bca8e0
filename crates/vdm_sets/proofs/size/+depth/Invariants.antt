use Rattle.std.proofs.Common.{◌≡◌, ◌+◌, ◌*◌, take, min}
use Rattle.abstract_syntax.specs.Values.{nodes_of, nodes_of_values, nodes_of_pairs, depth_of_values, depth_of_pairs, value_trees, pair_trees}
use Rattle.vdm_sets.proofs.size.+depth.Given as goal

abbrev pub decreases-depth : goal.decreases-depth
decreases-depth l = 2 * nodes_of l.v.now

abbrev pub decreases-depth_of_items : goal.decreases-depth_of_items
decreases-depth_of_items l = 2 * nodes_of_values (value_trees l.items.now) + 1

abbrev pub decreases-depth_of_entries : goal.decreases-depth_of_entries
decreases-depth_of_entries l = 2 * nodes_of_pairs (pair_trees l.pairs.now) + 1

abbrev pub invariant-depth_of_items-loop-item : goal.invariant-depth_of_items-loop-item
invariant-depth_of_items-loop-item l = l.deepest ≡ min (depth_of_values (value_trees (take l.item-index l.items))) 18446744073709551615

abbrev pub invariant-depth_of_entries-loop-key : goal.invariant-depth_of_entries-loop-key
invariant-depth_of_entries-loop-key l = l.deepest ≡ min (depth_of_pairs (pair_trees (take l.key-index l.pairs))) 18446744073709551615
