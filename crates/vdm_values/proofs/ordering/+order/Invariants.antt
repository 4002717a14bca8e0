use Rattle.std.proofs.Common.{◌≡◌, ◌+◌, ◌*◌, ◌≤◌}
use Rattle.abstract_syntax.specs.Values.{nodes_of, nodes_of_values, nodes_of_pairs, value_trees, pair_trees}
use Rattle.abstract_syntax.specs.ValueOrder.{items_order, pair_items_order}
use Rattle.vdm_values.specs.Tree.{tree_of}
use Rattle.vdm_values.proofs.ordering.+order.Given as goal

abbrev pub decreases-order : goal.decreases-order
decreases-order l = 5 * nodes_of l.a.now + 1

abbrev pub decreases-order_of_nodes : goal.decreases-order_of_nodes
decreases-order_of_nodes l = 5 * nodes_of (tree_of l.a.now)

abbrev pub decreases-order_of_lists : goal.decreases-order_of_lists
decreases-order_of_lists l = 5 * nodes_of_values (value_trees l.a.now) + 3

abbrev pub decreases-order_of_records : goal.decreases-order_of_records
decreases-order_of_records l = 5 * nodes_of_values (value_trees l.a.2.now) + 4

abbrev pub decreases-order_of_items : goal.decreases-order_of_items
decreases-order_of_items l = 5 * nodes_of_values (value_trees l.a.now) + 2

abbrev pub decreases-order_of_maps : goal.decreases-order_of_maps
decreases-order_of_maps l = 5 * nodes_of_pairs (pair_trees l.a.now) + 4

abbrev pub decreases-order_of_entries : goal.decreases-order_of_entries
decreases-order_of_entries l = 5 * nodes_of_pairs (pair_trees l.a.now) + 3

abbrev pub decreases-order_of_pairs : goal.decreases-order_of_pairs
decreases-order_of_pairs l = 5 * (nodes_of l.a.now.0 + nodes_of l.a.now.1) + 2

abbrev pub invariant-order_of_items-loop-x : goal.invariant-order_of_items-loop-x
invariant-order_of_items-loop-x l = record {
  same : items_order (value_trees l.a) (value_trees l.b) ≡ items_order (value_trees l.x-iterator.a.rest.now) (value_trees l.x-iterator.b.rest.now);
  left : nodes_of_values (value_trees l.x-iterator.a.rest.now) ≤ nodes_of_values (value_trees l.a);
}

abbrev pub invariant-order_of_entries-loop-x : goal.invariant-order_of_entries-loop-x
invariant-order_of_entries-loop-x l = record {
  same : pair_items_order (pair_trees l.a) (pair_trees l.b) ≡ pair_items_order (pair_trees l.x-iterator.a.rest.now) (pair_trees l.x-iterator.b.rest.now);
  left : nodes_of_pairs (pair_trees l.x-iterator.a.rest.now) ≤ nodes_of_pairs (pair_trees l.a);
}
