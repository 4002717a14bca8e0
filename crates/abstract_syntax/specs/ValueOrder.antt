-- The canonical order of values: by kind, then within the kind. It is this project's own.
use Rattle.std.specs.Prelude.{ℕ, suc}
use Rattle.std.specs.declared.cmp.Ordering.{Ordering}
use Rattle.std.specs.declared.cmp.Ordering.TheVariants.{Equal}
use Rattle.std.specs.Ordering.{nat_cmp, int_cmp, bool_cmp, ordering_then}
use Rattle.vdm_kinds.specs.declared.name.Name.{Name}
use Rattle.abstract_syntax.specs.Values.{ValueTree, ValueTrees, PairTrees, nil, boolean, number, character, quote, token, tuple}
use Rattle.abstract_syntax.specs.Values.{record_of, sequence, set_of, map_of, object, no_values, one_value, no_pairs, one_pair}

-- the kinds rise
abbrev pub kind_number : ValueTree → ℕ
kind_number nil = 0
kind_number (boolean b) = 1
kind_number (number z) = 2
kind_number (character c) = 3
kind_number (quote q) = 4
kind_number (token v) = 5
kind_number (tuple vs) = 6
kind_number (record_of class name vs) = 7
kind_number (sequence vs) = 8
kind_number (set_of vs) = 9
kind_number (map_of ps) = 10
kind_number (object n class) = 11

abbrev pub name_order : Name → Name → Ordering
name_order a b = nat_cmp a.0 b.0

abbrev pub count_of : ValueTrees → ℕ
count_of no_values = 0
count_of (one_value v vs) = suc (count_of vs)

abbrev pub count_of_pairs : PairTrees → ℕ
count_of_pairs no_pairs = 0
count_of_pairs (one_pair k v ps) = suc (count_of_pairs ps)

-- by length, then as said
abbrev pub by_length : ℕ → ℕ → Ordering → Ordering
by_length m n further = ordering_then (nat_cmp m n) further

abbrev mutual
  -- `false` before `true`; numbers by size, characters by code, quotes by the number of their name, tokens by content; records by
  -- the class's name, then the type's, then as tuples; tuples, sequences, sets and maps by length, then by the first item
  -- that differs; objects by number, then by the class's name
  pub value_order : ValueTree → ValueTree → Ordering
  value_order (boolean a) (boolean b) = bool_cmp a b
  value_order (number a) (number b) = int_cmp a b
  value_order (character a) (character b) = nat_cmp a b
  value_order (quote a) (quote b) = name_order a b
  value_order (token a) (token b) = value_order a b
  value_order (tuple a) (tuple b) = by_length (count_of a) (count_of b) (items_order a b)
  value_order (record_of c m a) (record_of d n b) =
      ordering_then (name_order c d) (ordering_then (name_order m n) (by_length (count_of a) (count_of b) (items_order a b)))
  value_order (sequence a) (sequence b) = by_length (count_of a) (count_of b) (items_order a b)
  value_order (set_of a) (set_of b) = by_length (count_of a) (count_of b) (items_order a b)
  value_order (map_of a) (map_of b) = by_length (count_of_pairs a) (count_of_pairs b) (pair_items_order a b)
  value_order (object m c) (object n d) = ordering_then (nat_cmp m n) (name_order c d)
  value_order a b = nat_cmp (kind_number a) (kind_number b)

  -- by the first item that differs
  pub items_order : ValueTrees → ValueTrees → Ordering
  items_order (one_value v vs) (one_value w ws) = ordering_then (value_order v w) (items_order vs ws)
  items_order a b = Equal

  -- each pair by key first
  pub pair_items_order : PairTrees → PairTrees → Ordering
  pair_items_order (one_pair k v ps) (one_pair l w qs) =
      ordering_then (value_order k l) (ordering_then (value_order v w) (pair_items_order ps qs))
  pair_items_order a b = Equal
