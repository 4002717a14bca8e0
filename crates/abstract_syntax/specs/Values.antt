-- Values as pure trees: what a clause sees of a value, with no box and no vector in it.
use Rattle.std.specs.Prelude.{◌≡◌, ℕ, ◌+◌, max, ℤ, Bool, List, [], ◌∷◌, refl}
use Rattle.std.proofs.Common.{ap}
use Rattle.vdm_kinds.specs.declared.name.Name.{Name}

mutual
  -- the twelve kinds; a record has its class, its type's name and its fields, an object its number and its class
  pub data ValueTree : Type 0 where
    nil : ValueTree
    boolean : Bool → ValueTree
    number : ℤ → ValueTree
    character : ℕ → ValueTree
    quote : Name → ValueTree
    token : ValueTree → ValueTree
    tuple : ValueTrees → ValueTree
    record_of : Name → Name → ValueTrees → ValueTree
    sequence : ValueTrees → ValueTree
    set_of : ValueTrees → ValueTree
    map_of : PairTrees → ValueTree
    object : ℕ → Name → ValueTree

  -- a list of values
  pub data ValueTrees : Type 0 where
    no_values : ValueTrees
    one_value : ValueTree → ValueTrees → ValueTrees

  -- a list of pairs, each a key and its value
  pub data PairTrees : Type 0 where
    no_pairs : PairTrees
    one_pair : ValueTree → ValueTree → PairTrees → PairTrees

-- a list of values as a part of a tree
abbrev pub value_trees : List ValueTree → ValueTrees
value_trees [] = no_values
value_trees (v ∷ vs) = one_value v (value_trees vs)

-- the list that such a part stands for
abbrev pub value_list : ValueTrees → List ValueTree
value_list no_values = []
value_list (one_value v vs) = v ∷ value_list vs

-- a list of pairs as a part of a tree
abbrev pub pair_trees : List (ValueTree × ValueTree) → PairTrees
pair_trees [] = no_pairs
pair_trees (p ∷ ps) = one_pair p.0 p.1 (pair_trees ps)

-- the list that such a part stands for
abbrev pub pair_list : PairTrees → List (ValueTree × ValueTree)
pair_list no_pairs = []
pair_list (one_pair k v ps) = (k, v) ∷ pair_list ps

pub value_list-value_trees : (vs : List ValueTree) → value_list (value_trees vs) ≡ vs
value_list-value_trees [] = refl
value_list-value_trees (v ∷ vs) = ap (λ rest. v ∷ rest) (value_list-value_trees vs)

pub value_trees-value_list : (vs : ValueTrees) → value_trees (value_list vs) ≡ vs
value_trees-value_list no_values = refl
value_trees-value_list (one_value v vs) = ap (one_value v) (value_trees-value_list vs)

pub pair_list-pair_trees : (ps : List (ValueTree × ValueTree)) → pair_list (pair_trees ps) ≡ ps
pair_list-pair_trees [] = refl
pair_list-pair_trees (p ∷ ps) = ap (λ rest. p ∷ rest) (pair_list-pair_trees ps)

pub pair_trees-pair_list : (ps : PairTrees) → pair_trees (pair_list ps) ≡ ps
pair_trees-pair_list no_pairs = refl
pair_trees-pair_list (one_pair k v ps) = ap (one_pair k v) (pair_trees-pair_list ps)

-- how many nodes a value has: 1 for a leaf, and for any other value 1 more than its parts together
abbrev mutual
  pub nodes_of : ValueTree → ℕ
  nodes_of nil = 1
  nodes_of (boolean b) = 1
  nodes_of (number z) = 1
  nodes_of (character c) = 1
  nodes_of (quote q) = 1
  nodes_of (token v) = 1 + nodes_of v
  nodes_of (tuple vs) = 1 + nodes_of_values vs
  nodes_of (record_of class name vs) = 1 + nodes_of_values vs
  nodes_of (sequence vs) = 1 + nodes_of_values vs
  nodes_of (set_of vs) = 1 + nodes_of_values vs
  nodes_of (map_of ps) = 1 + nodes_of_pairs ps
  nodes_of (object n class) = 1

  pub nodes_of_values : ValueTrees → ℕ
  nodes_of_values no_values = 0
  nodes_of_values (one_value v vs) = nodes_of v + nodes_of_values vs

  pub nodes_of_pairs : PairTrees → ℕ
  nodes_of_pairs no_pairs = 0
  nodes_of_pairs (one_pair k v ps) = nodes_of k + nodes_of v + nodes_of_pairs ps

-- how deep a value is: 1 for a leaf, and for any other value 1 more than its deepest part, where there is one
abbrev mutual
  pub depth_of : ValueTree → ℕ
  depth_of nil = 1
  depth_of (boolean b) = 1
  depth_of (number z) = 1
  depth_of (character c) = 1
  depth_of (quote q) = 1
  depth_of (token v) = 1 + depth_of v
  depth_of (tuple vs) = 1 + depth_of_values vs
  depth_of (record_of class name vs) = 1 + depth_of_values vs
  depth_of (sequence vs) = 1 + depth_of_values vs
  depth_of (set_of vs) = 1 + depth_of_values vs
  depth_of (map_of ps) = 1 + depth_of_pairs ps
  depth_of (object n class) = 1

  -- that of the deepest, or 0
  pub depth_of_values : ValueTrees → ℕ
  depth_of_values no_values = 0
  depth_of_values (one_value v vs) = max (depth_of v) (depth_of_values vs)

  pub depth_of_pairs : PairTrees → ℕ
  depth_of_pairs no_pairs = 0
  depth_of_pairs (one_pair k v ps) = max (max (depth_of k) (depth_of v)) (depth_of_pairs ps)
