-- Sets and maps as values, and the bounds of every value.
use Rattle.std.specs.Prelude.{◌≢◌, ◌<◌, ◌≤◌, ◌⊎◌, List, Contains}
use Rattle.std.specs.Bool.{⊤}
use Rattle.std.specs.declared.cmp.Ordering.{Ordering}
use Rattle.std.specs.Ordering.{ordering_then, on}
use Rattle.std.specs.List.Sorted.{IsStrictlySortedBy}
use Rattle.abstract_syntax.specs.Values.{ValueTree, ValueTrees, PairTrees, nil, boolean, number, character, quote, token, tuple}
use Rattle.abstract_syntax.specs.Values.{record_of, sequence, set_of, map_of, object, no_values, one_value, no_pairs, one_pair}
use Rattle.abstract_syntax.specs.Values.{value_trees, value_list, pair_trees, pair_list, nodes_of, depth_of}
use Rattle.abstract_syntax.specs.ValueOrder.{value_order}
use Rattle.abstract_syntax.specs.Rising.{rising}

-- a key with its value
abbrev pub Entry : Type 0
Entry = ValueTree × ValueTree

-- by key, then by value
abbrev pub pair_order : Entry → Entry → Ordering
pair_order p q = ordering_then (value_order p.0 q.0) (value_order p.1 q.1)

-- by key
abbrev pub key_order : Entry → Entry → Ordering
key_order = on (λ p. p.0) value_order

-- the set of the items
abbrev pub set_value : List ValueTree → ValueTree
set_value items = set_of (value_trees (rising value_order items))

-- the map of the pairs, where no key has two different values
abbrev pub map_value : List Entry → ValueTree
map_value pairs = map_of (pair_trees (rising pair_order pairs))

-- one key has two different values
pub record HasConflict (pairs : List Entry) : Type 0 where
  pub key : ValueTree
  pub value : ValueTree
  pub other : ValueTree
  pub first : Contains pairs (key, value)
  pub second : Contains pairs (key, other)
  pub differ : value ≢ other

-- at most 200,000 nodes, and depth at most 500
abbrev pub IsWithinLimits : ValueTree → Type 0
IsWithinLimits v = (nodes_of v ≤ 200000) × (depth_of v ≤ 500)

-- more nodes, or deeper
abbrev pub IsTooLarge : ValueTree → Type 0
IsTooLarge v = (200000 < nodes_of v) ⊎ (500 < depth_of v)

abbrev mutual
  -- each set in the value rises strictly, and each map by its keys
  pub IsCanonical : ValueTree → Type 0
  IsCanonical nil = ⊤
  IsCanonical (boolean b) = ⊤
  IsCanonical (number z) = ⊤
  IsCanonical (character c) = ⊤
  IsCanonical (quote q) = ⊤
  IsCanonical (token v) = IsCanonical v
  IsCanonical (tuple vs) = AreCanonical vs
  IsCanonical (record_of class name vs) = AreCanonical vs
  IsCanonical (sequence vs) = AreCanonical vs
  IsCanonical (set_of vs) = AreCanonical vs × IsStrictlySortedBy value_order (value_list vs)
  IsCanonical (map_of ps) = AreCanonicalPairs ps × IsStrictlySortedBy key_order (pair_list ps)
  IsCanonical (object n class) = ⊤

  pub AreCanonical : ValueTrees → Type 0
  AreCanonical no_values = ⊤
  AreCanonical (one_value v vs) = IsCanonical v × AreCanonical vs

  pub AreCanonicalPairs : PairTrees → Type 0
  AreCanonicalPairs no_pairs = ⊤
  AreCanonicalPairs (one_pair k v ps) = IsCanonical k × IsCanonical v × AreCanonicalPairs ps
