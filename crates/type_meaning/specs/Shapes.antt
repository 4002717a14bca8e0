-- Which shape a type wants of a value, and which invariants have to hold of one that has it.
use Rattle.std.specs.Prelude.{ℕ, zero, suc, pos, Bool, true, false, not, if◌then◌else◌, ◌&&◌, List, [], ◌∷◌, map, Option, Some, None}
use Rattle.vdm_kinds.specs.declared.basic_type.BasicType.{BasicType}
use Rattle.vdm_kinds.specs.declared.basic_type.BasicType.TheVariants.{Bool as Truth, Nat, Nat1, Int, Char, Token}
use Rattle.vdm_kinds.specs.declared.name.Name.{Name}
use Rattle.vdm_kinds.specs.declared.name_at.TypeName.{TypeName}
use Rattle.abstract_syntax.specs.Types.{
  TypeTree,
  TypeTrees,
  basic_type,
  quote_type,
  set_type,
  seq_type,
  seq1_type,
  map_type,
  inmap_type,
  optional_type,
  bracketed_type,
  named_type,
  product_type,
  union_type,
  no_types,
  one_type,
}
use Rattle.abstract_syntax.specs.Classes.{FieldTree, TypeBody, same_as, with_fields, InvariantTree, TypeDefTree, is_same_name}
use Rattle.abstract_syntax.specs.Values.{
  ValueTree,
  nil,
  boolean,
  number,
  character,
  quote,
  token,
  tuple,
  record_of,
  sequence,
  set_of,
  map_of,
  object,
  ValueTrees,
  no_values,
  one_value,
  PairTrees,
  no_pairs,
  one_pair,
  value_list,
  pair_list,
}
use Rattle.expr_tree.specs.Alternatives.{Finder}
use Rattle.value_operators.specs.Maps.{turned, is_in_conflict}
use Rattle.type_meaning.specs.Tests.{Tests, no_tests, holds, followed_by, both, Choices, no_choices, with_choice, one_of}

-- ---- values alone

-- `nat` takes the numbers from 0, `nat1` those from 1, `int` all
abbrev pub is_of_basic : BasicType → ValueTree → Bool
is_of_basic Truth (boolean b) = true
is_of_basic Nat (number (pos n)) = true
is_of_basic Nat1 (number (pos (suc n))) = true
is_of_basic Int (number z) = true
is_of_basic Char (character c) = true
is_of_basic Token (token v) = true
is_of_basic _ _ = false

abbrev pub is_quote : Name → ValueTree → Bool
is_quote name (quote other) = is_same_name name other
is_quote name v = false

abbrev pub is_nil : ValueTree → Bool
is_nil nil = true
is_nil v = false

-- whether no two keys of a map have one value
abbrev pub has_distinct_values : ValueTree → Bool
has_distinct_values (map_of pairs) = not (is_in_conflict (turned (pair_list pairs)))
has_distinct_values v = false

-- nothing more has to hold of what passes
abbrev pub plainly : Bool → Option Tests
plainly true = Some no_tests
plainly false = None

-- ---- parts

-- What has to hold of a value, so that a type in a class takes it; None where it has another shape.
abbrev pub Tester : Type 0
Tester = Name → TypeTree → Option Tests

-- the parts of a value, each by how it is tested; a leaf has none
pub data Parts : Type 0 where
  no_parts : Parts
  tuple_parts : List Tester → Parts
  record_parts : Name → Name → List Tester → Parts
  items : List Tester → Parts
  elements : List Tester → Parts
  entries : List (Tester × Tester) → Parts

-- each part against one type
abbrev pub each : Name → TypeTree → List Tester → Option Tests
each scope t [] = Some no_tests
each scope t (tester ∷ testers) = both (tester scope t) (each scope t testers)

-- the key before the value, entry by entry
abbrev pub each_entry : Name → TypeTree → TypeTree → List (Tester × Tester) → Option Tests
each_entry scope key value [] = Some no_tests
each_entry scope key value (entry ∷ more) =
    both (entry.0 scope key) (both (entry.1 scope value) (each_entry scope key value more))

-- as many parts as factors, each against its own
abbrev pub each_factor : Name → TypeTrees → List Tester → Option Tests
each_factor scope no_types [] = Some no_tests
each_factor scope (one_type t ts) (tester ∷ testers) = both (tester scope t) (each_factor scope ts testers)
each_factor scope _ _ = None

-- ... and as fields
abbrev pub each_field : Name → List FieldTree → List Tester → Option Tests
each_field scope [] [] = Some no_tests
each_field scope (field ∷ fields) (tester ∷ testers) = both (tester scope field.declared) (each_field scope fields testers)
each_field scope _ _ = None

abbrev pub on_elements : Parts → (List Tester → Option Tests) → Option Tests
on_elements (elements testers) further = further testers
on_elements _ further = None

abbrev pub on_items : Parts → (List Tester → Option Tests) → Option Tests
on_items (items testers) further = further testers
on_items _ further = None

-- `seq1` takes no empty sequence
abbrev pub on_some_items : Parts → (List Tester → Option Tests) → Option Tests
on_some_items (items (tester ∷ testers)) further = further (tester ∷ testers)
on_some_items _ further = None

abbrev pub on_entries : Parts → (List (Tester × Tester) → Option Tests) → Option Tests
on_entries (entries testers) further = further testers
on_entries _ further = None

abbrev pub on_tuple : Parts → (List Tester → Option Tests) → Option Tests
on_tuple (tuple_parts testers) further = further testers
on_tuple _ further = None

-- the fields of a record of the type of this class and name
abbrev pub on_record : Name → Name → Parts → (List Tester → Option Tests) → Option Tests
on_record class name (record_parts other_class other testers) further =
    if is_same_name class other_class && is_same_name name other then further testers else None
on_record class name _ further = None

-- ---- types

-- `find` gives the definition of a type's name in a class; `descends` tells whether the second class is the first one or an ancestor of it
module _ (find : Finder) (descends : Name → Name → Bool) where
  abbrev pub is_object_of : Name → ValueTree → Bool
  is_object_of class (object n own) = descends own class
  is_object_of class v = false

  -- what is no type's name may be a class's: a type is found first
  abbrev pub class_test : Option Name → Name → ValueTree → Option Tests
  class_test None class v = plainly (is_object_of class v)
  class_test (Some _) class v = None

  -- one value with its parts; `takes` says what a definition wants of it
  module _ (v : ValueTree) (parts : Parts) (takes : TypeDefTree → Option Tests) where
    abbrev pub name_test : TypeName → Option TypeDefTree → Option Tests
    name_test t (Some d) = takes d
    name_test t None = class_test t.class t.name v

    abbrev mutual
      pub type_test : Name → TypeTree → Option Tests
      type_test scope (basic_type basic place) = plainly (is_of_basic basic v)
      type_test scope (quote_type name place) = plainly (is_quote name v)
      type_test scope (set_type element place) = on_elements parts (each scope element)
      type_test scope (seq_type item place) = on_items parts (each scope item)
      type_test scope (seq1_type item place) = on_some_items parts (each scope item)
      type_test scope (map_type key value place) = on_entries parts (each_entry scope key value)
      type_test scope (inmap_type key value place) =
          if has_distinct_values v then on_entries parts (each_entry scope key value) else None
      -- `[T]` takes nil before T is tried
      type_test scope (optional_type inner place) = if is_nil v then Some no_tests else type_test scope inner
      type_test scope (bracketed_type inner place) = type_test scope inner
      type_test scope (named_type t place) = name_test t (find scope t.class t.name)
      type_test scope (product_type factors place) = on_tuple parts (each_factor scope factors)
      type_test scope (union_type types place) = one_of (choices scope types)

      -- the alternatives whose shape the value has, as written
      pub choices : Name → TypeTrees → Choices
      choices scope no_types = no_choices
      choices scope (one_type t ts) = with_choice (type_test scope t) (choices scope ts)

    abbrev pub body_test : TypeDefTree → TypeBody → Option Tests
    body_test d (same_as declared) = type_test d.class declared
    body_test d (with_fields fields) = on_record d.class d.name parts (each_field d.class fields)

  -- the type's own invariant comes last
  abbrev pub own_test : TypeDefTree → ValueTree → Option InvariantTree → Tests
  own_test d v None = no_tests
  own_test d v (Some invariant) = holds d v no_tests

  abbrev pub with_own : TypeDefTree → ValueTree → Option Tests → Option Tests
  with_own d v tests = both tests (Some (own_test d v d.invariant))

  -- a definition, by so many definitions in a row
  abbrev pub definition_test : ℕ → ValueTree → Parts → TypeDefTree → Option Tests
  definition_test zero v parts d = None
  definition_test (suc n) v parts d = with_own d v (body_test v parts (definition_test n v parts) d d.body)

  -- `rank` falls from each definition to its alternatives, so no more are in a row than the first one's number and one
  module _ (rank : TypeDefTree → ℕ) where
    abbrev pub opened : ValueTree → Parts → TypeDefTree → Option Tests
    opened v parts d = definition_test (suc (rank d)) v parts d

    -- ---- values with their parts

    abbrev mutual
      pub parts_of : ValueTree → Parts
      parts_of (tuple vs) = tuple_parts (testers vs)
      parts_of (record_of class name vs) = record_parts class name (testers vs)
      parts_of (sequence vs) = items (testers vs)
      parts_of (set_of vs) = elements (testers vs)
      parts_of (map_of ps) = entries (entry_testers ps)
      parts_of v = no_parts

      pub testers : ValueTrees → List Tester
      testers no_values = []
      testers (one_value v vs) = type_test v (parts_of v) (opened v (parts_of v)) ∷ testers vs

      pub entry_testers : PairTrees → List (Tester × Tester)
      entry_testers no_pairs = []
      entry_testers (one_pair k v ps) =
          (type_test k (parts_of k) (opened k (parts_of k)), type_test v (parts_of v) (opened v (parts_of v))) ∷ entry_testers ps

    -- what has to hold of a value, so that a type in a class takes it; None where it has another shape
    abbrev pub tests_of : ValueTree → Tester
    tests_of v = type_test v (parts_of v) (opened v (parts_of v))

    -- those of its alternatives in a class whose shape it has
    abbrev pub choices_of : ValueTree → Name → TypeTrees → Choices
    choices_of v = choices v (parts_of v) (opened v (parts_of v))

    -- ... so that a definition takes it
    abbrev pub tests_by : TypeDefTree → ValueTree → Option Tests
    tests_by d v = opened v (parts_of v) d
