use Rattle.std.proofs.Common.{◌≡◌, ◌+◌, ◌*◌, ◌≤◌, take, length}
use Rattle.abstract_syntax.specs.Values.{nodes_of, nodes_of_values, nodes_of_pairs, value_trees, pair_trees}
use Rattle.vdm_values.specs.Tree.{tree_of}
use Rattle.vdm_values.proofs.value.+equals.Given as goal

abbrev pub decreases-Value::equals : goal.decreases-Value::equals
decreases-Value::equals l = 3 * nodes_of l.self.now + 1

abbrev pub decreases-Node::equals : goal.decreases-Node::equals
decreases-Node::equals l = 3 * nodes_of (tree_of l.self.now)

abbrev pub decreases-are_equal : goal.decreases-are_equal
decreases-are_equal l = 3 * nodes_of_values (value_trees l.values.now) + 2

abbrev pub decreases-are_equal_pairs : goal.decreases-are_equal_pairs
decreases-are_equal_pairs l = 3 * nodes_of_pairs (pair_trees l.pairs.now) + 2

abbrev pub invariant-are_equal-loop-value : goal.invariant-are_equal-loop-value
invariant-are_equal-loop-value l = record {
  same : take (length l.yielded) l.values ≡ take (length l.yielded) l.others;
  left : nodes_of_values (value_trees l.value-iterator.a.rest.now) ≤ nodes_of_values (value_trees l.values);
}

abbrev pub invariant-are_equal_pairs-loop-pair : goal.invariant-are_equal_pairs-loop-pair
invariant-are_equal_pairs-loop-pair l = record {
  same : take (length l.yielded) l.pairs ≡ take (length l.yielded) l.others;
  left : nodes_of_pairs (pair_trees l.pair-iterator.a.rest.now) ≤ nodes_of_pairs (pair_trees l.pairs);
}
