-- Each part of a value has fewer nodes than the value.
use Rattle.std.specs.Prelude.{ℕ, ◌≤◌, ◌+◌, max, List, [], ◌∷◌}
use Rattle.std.proofs.Common.{arith}
use Rattle.vdm_values.specs.declared.value.Kept.{Kept}
use Rattle.vdm_values.specs.declared.value.Kept.TheVariants.{Alone, Shared}
use Rattle.vdm_values.specs.declared.value.Node.{Node}
use Rattle.vdm_values.specs.declared.value.Node.TheVariants.{Token, Tuple, Rec, Seq, Set, Map}
use Rattle.vdm_values.specs.declared.value.Value.TheDeep.{deep-Kept, deep-Node}
use Rattle.abstract_syntax.specs.Values.{ValueTree, nodes_of, nodes_of_values, nodes_of_pairs, value_trees, pair_trees}
use Rattle.vdm_values.specs.Tree.{node_of, tree_of}
use denote.Param.Weighed.{most}

-- no value of a list has more nodes than all of them together
pub most_le-nodes_of_values : (vs : List ValueTree) → most (λ v. nodes_of v + 1) vs ≤ nodes_of_values (value_trees vs) + 1
most_le-nodes_of_values [] = omega arith
most_le-nodes_of_values (v ∷ vs) = omega (arith, most_le-nodes_of_values vs)

-- no key and no value of a list of pairs has more nodes than all of them together
pub most_le-nodes_of_pairs : (ps : List (ValueTree × ValueTree)) → most
    (λ p. max (nodes_of p.0 + 1) (max (nodes_of p.1 + 1) 0)) ps ≤ nodes_of_pairs (pair_trees ps) + 1
most_le-nodes_of_pairs [] = omega arith
most_le-nodes_of_pairs (p ∷ ps) = omega (arith, most_le-nodes_of_pairs ps)

at_most_one_more : (deepest nodes : ℕ) → deepest ≤ nodes + 1 → max (max deepest 0) 0 ≤ 1 + nodes
at_most_one_more deepest nodes h = omega arith

-- no part is deeper than the value has nodes
deep-tree_of : (n : Node) → max (deep-Node n) 0 ≤ nodes_of (tree_of n)
deep-tree_of (Token v) = omega arith
deep-tree_of (Tuple vs) = omega (arith, most_le-nodes_of_values vs.items)
deep-tree_of (Rec class name vs) = omega (arith, most_le-nodes_of_values vs.items)
deep-tree_of (Seq vs) = omega (arith, most_le-nodes_of_values vs.items)
deep-tree_of (Set vs) = omega (arith, most_le-nodes_of_values vs.items)
deep-tree_of (Map ps) = at_most_one_more _ _ (most_le-nodes_of_pairs ps.items)
deep-tree_of _ = omega arith

-- ... whoever has its node
pub deep-node_of : (k : Kept) → max (deep-Kept k) 0 ≤ nodes_of (tree_of (node_of k))
deep-node_of (Alone n) = omega (arith, deep-tree_of n)
deep-node_of (Shared n) = omega (arith, deep-tree_of n.value)
