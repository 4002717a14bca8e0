-- The objects in a value.
use Rattle.std.specs.Prelude.{ℕ}
use Rattle.std.specs.Bool.{⊤}
use Rattle.vdm_kinds.specs.declared.name.Name.{Name}
use Rattle.abstract_syntax.specs.Values.{ValueTree, ValueTrees, PairTrees, nil, boolean, number, character, quote, token, tuple}
use Rattle.abstract_syntax.specs.Values.{record_of, sequence, set_of, map_of, object, no_values, one_value, no_pairs, one_pair}
use Rattle.abstract_syntax.specs.ValueSets.{Entry}

-- `P` is a property of an object, by its number and its class
module _ (P : ℕ → Name → Type 0) where
  abbrev mutual
    -- each object in the value has the property
    pub EachObject : ValueTree → Type 0
    EachObject nil = ⊤
    EachObject (boolean b) = ⊤
    EachObject (number z) = ⊤
    EachObject (character c) = ⊤
    EachObject (quote q) = ⊤
    EachObject (token v) = EachObject v
    EachObject (tuple vs) = EachObjectIn vs
    EachObject (record_of class name vs) = EachObjectIn vs
    EachObject (sequence vs) = EachObjectIn vs
    EachObject (set_of vs) = EachObjectIn vs
    EachObject (map_of ps) = EachObjectInPairs ps
    EachObject (object n class) = P n class

    -- each object in each of the values
    pub EachObjectIn : ValueTrees → Type 0
    EachObjectIn no_values = ⊤
    EachObjectIn (one_value v vs) = EachObject v × EachObjectIn vs

    -- each object in each of the keys, and in each of what they lead to
    pub EachObjectInPairs : PairTrees → Type 0
    EachObjectInPairs no_pairs = ⊤
    EachObjectInPairs (one_pair k v ps) = EachObject k × EachObject v × EachObjectInPairs ps

  -- each object on both sides of a pair
  abbrev pub EachObjectOnBoth : Entry → Type 0
  EachObjectOnBoth p = EachObject p.0 × EachObject p.1
