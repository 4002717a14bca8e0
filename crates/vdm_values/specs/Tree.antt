-- The tree that a node stands for, and what is true of every node of a value.
use Rattle.std.specs.Prelude.{◌≡◌}
use Rattle.std.specs.Bool.{⊤}
use Rattle.std.specs.List.Sorted.{IsStrictlySortedBy}
use Rattle.std.proofs.Common.{subst, sym}
use Rattle.vdm_values.specs.declared.value.Kept.{Kept}
use Rattle.vdm_values.specs.declared.value.Kept.TheVariants.{Alone, Shared}
use Rattle.vdm_values.specs.declared.value.Node.{Node}
use Rattle.vdm_values.specs.declared.value.Node.TheVariants.{Nil, Bool, Int, Char, Quote, Token, Tuple, Rec, Seq, Set, Map, Object}
use Rattle.abstract_syntax.specs.Values.{ValueTree, nil, boolean, number, character, quote, token, tuple, record_of, sequence, set_of}
use Rattle.abstract_syntax.specs.Values.{map_of, object, value_trees, pair_trees, value_list, pair_list, value_list-value_trees, pair_list-pair_trees}
use Rattle.abstract_syntax.specs.ValueOrder.{value_order}
use Rattle.abstract_syntax.specs.ValueSets.{key_order}

-- the node of a value, whoever has it
abbrev pub node_of : Kept → Node
node_of (Alone n) = n
node_of (Shared n) = n.value

abbrev pub tree_of : Node → ValueTree
tree_of Nil = nil
tree_of (Bool b) = boolean b
tree_of (Int z) = number z
tree_of (Char c) = character c
tree_of (Quote q) = quote q
tree_of (Token v) = token v.value
tree_of (Tuple vs) = tuple (value_trees vs.items)
tree_of (Rec class name vs) = record_of class name (value_trees vs.items)
tree_of (Seq vs) = sequence (value_trees vs.items)
tree_of (Set vs) = set_of (value_trees vs.items)
tree_of (Map ps) = map_of (pair_trees ps.items)
tree_of (Object n class) = object n class

-- the items of a set rise strictly, and the pairs of a map by their keys; of the parts' own parts nothing is said
abbrev pub IsRising : Node → Type 0
IsRising (Set vs) = IsStrictlySortedBy value_order vs.items
IsRising (Map ps) = IsStrictlySortedBy key_order ps.items
IsRising _ = ⊤

-- the same of the tree
abbrev pub IsRisingTree : ValueTree → Type 0
IsRisingTree (set_of vs) = IsStrictlySortedBy value_order (value_list vs)
IsRisingTree (map_of ps) = IsStrictlySortedBy key_order (pair_list ps)
IsRisingTree _ = ⊤

pub rising_tree : (n : Node) → IsRising n → IsRisingTree (tree_of n)
rising_tree (Set vs) h = subst (IsStrictlySortedBy value_order) (sym (value_list-value_trees vs.items)) h
rising_tree (Map ps) h = subst (IsStrictlySortedBy key_order) (sym (pair_list-pair_trees ps.items)) h
rising_tree _ h = tt

pub rising_node : (n : Node) → IsRisingTree (tree_of n) → IsRising n
rising_node (Set vs) h = subst (IsStrictlySortedBy value_order) (value_list-value_trees vs.items) h
rising_node (Map ps) h = subst (IsStrictlySortedBy key_order) (pair_list-pair_trees ps.items) h
rising_node _ h = tt

-- a node that stands for the same tree as a node of a value may be one itself
pub rising_as : (m n : Node) → tree_of m ≡ tree_of n → IsRising n → IsRising m
rising_as m n e h = rising_node m (subst IsRisingTree (sym e) (rising_tree n h))
