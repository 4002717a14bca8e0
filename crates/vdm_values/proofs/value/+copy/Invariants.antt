use Rattle.std.proofs.Common.{◌≡◌, ◌+◌, ◌*◌, take}
use Rattle.abstract_syntax.specs.Values.{nodes_of, nodes_of_values, nodes_of_pairs, value_trees, pair_trees}
use Rattle.vdm_values.specs.Tree.{node_of, tree_of}
use Rattle.vdm_values.proofs.value.+copy.Given as goal

abbrev pub decreases-Value::copy : goal.decreases-Value::copy
decreases-Value::copy l = 4 * nodes_of l.self.now + 2

abbrev pub decreases-Kept::copy : goal.decreases-Kept::copy
decreases-Kept::copy l = 4 * nodes_of (tree_of (node_of l.self.now)) + 1

abbrev pub decreases-Node::copy : goal.decreases-Node::copy
decreases-Node::copy l = 4 * nodes_of (tree_of l.self.now)

abbrev pub decreases-copy_values : goal.decreases-copy_values
decreases-copy_values l = 4 * nodes_of_values (value_trees l.values.now) + 3

abbrev pub decreases-copy_pairs : goal.decreases-copy_pairs
decreases-copy_pairs l = 4 * nodes_of_pairs (pair_trees l.pairs.now) + 3

abbrev pub invariant-copy_values-loop-value : goal.invariant-copy_values-loop-value
invariant-copy_values-loop-value l = l.copies.items ≡ take l.value-index l.values

abbrev pub invariant-copy_pairs-loop-key : goal.invariant-copy_pairs-loop-key
invariant-copy_pairs-loop-key l = l.copies.items ≡ take l.key-index l.pairs
