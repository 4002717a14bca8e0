-- What a test of a value asks for is there: only a type with an invariant adds a test of its own.
use Rattle.std.proofs.Common.{◌≡◌, ℕ, zero, suc, Bool, true, false, ◌&&◌, if◌then◌else◌, List, [], ◌∷◌, Option, Some, None, refl}
use Rattle.vdm_kinds.specs.declared.name.Name.{Name}
use Rattle.vdm_kinds.specs.declared.name_at.TypeName.{TypeName}
use Rattle.abstract_syntax.specs.Types.{
  TypeTree,
  TypeTrees,
  basic_type,
  quote_type,
  set_type,
  seq_type,
  seq1_type,
  map_type,
  inmap_type,
  optional_type,
  bracketed_type,
  named_type,
  product_type,
  union_type,
  no_types,
  one_type,
}
use Rattle.abstract_syntax.specs.Classes.{FieldTree, TypeBody, same_as, with_fields, InvariantTree, TypeDefTree, SpecTree, is_same_name}
use Rattle.abstract_syntax.specs.Values.{ValueTree, tuple, record_of, sequence, set_of, map_of, ValueTrees, no_values, one_value, PairTrees, no_pairs, one_pair}
use Rattle.expr_tree.specs.Alternatives.{Finder}
use Rattle.member_meaning.specs.TypeRanks.{finder, type_rank}
use Rattle.type_meaning.specs.Tests.{Tests, no_tests, holds, one_holds, followed_by, both, Choices, no_choices, choice, with_choice, one_of, Fitting, fits, wrong_invariant, Decision, decided, tested, tried, fitting}
use Rattle.type_meaning.specs.Shapes.{is_of_basic, is_quote, is_nil, has_distinct_values, plainly, Tester, Parts, no_parts, tuple_parts, record_parts, items, elements, entries, each, each_entry, each_factor, each_field, on_elements, on_items, on_some_items, on_entries, on_tuple, on_record, is_object_of, class_test, name_test, type_test, choices, body_test, own_test, definition_test, opened, parts_of, testers, entry_testers, tests_of}
use Rattle.node_meaning.specs.Envs.{type_scope}
use Rattle.node_meaning.specs.Fitting.{descends, fitting_in}
use Rattle.built_laws.specs.Asked.{HasInvariant, AsksInvariants}

-- ---- tests of invariants that are there

abbrev mutual
  pub AreThere : Tests → Type 0
  AreThere no_tests = Unit {0}
  AreThere (holds d v tests) = HasInvariant d × AreThere tests
  AreThere (one_holds cs tests) = AllThere cs × AreThere tests

  pub AllThere : Choices → Type 0
  AllThere no_choices = Unit {0}
  AllThere (choice tests others) = AreThere tests × AllThere others

-- nothing is asked where the shape is another
abbrev pub IfThere : Option Tests → Type 0
IfThere None = Unit {0}
IfThere (Some tests) = AreThere tests

followed_there : (a b : Tests) → AreThere a → AreThere b → AreThere (followed_by a b)
followed_there no_tests b h k = k
followed_there (holds d v a) b h k = (h.0, followed_there a b h.1 k)
followed_there (one_holds cs a) b h k = (h.0, followed_there a b h.1 k)

both_there : (a b : Option Tests) → IfThere a → IfThere b → IfThere (both a b)
both_there None None h k = tt
both_there None (Some tests) h k = tt
both_there (Some tests) None h k = tt
both_there (Some tests) (Some others) h k = followed_there tests others h k

plainly_there : (b : Bool) → IfThere (plainly b)
plainly_there true = tt
plainly_there false = tt

choice_there : (tests : Option Tests) (others : Choices) → IfThere tests → AllThere others → AllThere (with_choice tests others)
choice_there None others h k = k
choice_there (Some tests) others h k = (h, k)

one_there : (cs : Choices) → AllThere cs → IfThere (one_of cs)
one_there no_choices h = tt
one_there (choice no_tests others) h = tt
one_there (choice (holds d v tests) others) h = (h, tt)
one_there (choice (one_holds cs tests) others) h = (h, tt)

if_there : (b : Bool) (x y : Option Tests) → IfThere x → IfThere y → IfThere (if b then x else y)
if_there true x y h k = h
if_there false x y h k = k

-- ---- what is asked for

mutual
  tested_asks : (tests : Tests) (met unmet : Decision Fitting) → AreThere tests → AsksInvariants met → AsksInvariants unmet
      → AsksInvariants (tested tests met unmet)
  tested_asks no_tests met unmet h m u = m
  tested_asks (holds d v tests) met unmet h m u = (h.0, tested_asks tests met unmet h.1 m u, u)
  tested_asks (one_holds cs tests) met unmet h m u =
      tried_asks cs (tested tests met unmet) unmet h.0 (tested_asks tests met unmet h.1 m u) u

  tried_asks : (cs : Choices) (met unmet : Decision Fitting) → AllThere cs → AsksInvariants met → AsksInvariants unmet
      → AsksInvariants (tried cs met unmet)
  tried_asks no_choices met unmet h m u = u
  tried_asks (choice tests others) met unmet h m u =
      tested_asks tests met (tried others met unmet) h.0 m (tried_asks others met unmet h.1 m u)

fitting_asks : (tests : Option Tests) → IfThere tests → AsksInvariants (fitting tests)
fitting_asks None h = tt
fitting_asks (Some tests) h = tested_asks tests (decided fits) (decided wrong_invariant) h tt tt

-- ---- parts

abbrev pub IsTester : Tester → Type 0
IsTester tester = (scope : Name) (t : TypeTree) → IfThere (tester scope t)

abbrev pub EachThere : List Tester → Type 0
EachThere [] = Unit {0}
EachThere (tester ∷ others) = IsTester tester × EachThere others

abbrev pub EntriesThere : List (Tester × Tester) → Type 0
EntriesThere [] = Unit {0}
EntriesThere (entry ∷ others) = IsTester entry.0 × IsTester entry.1 × EntriesThere others

abbrev pub PartsThere : Parts → Type 0
PartsThere no_parts = Unit {0}
PartsThere (tuple_parts ts) = EachThere ts
PartsThere (record_parts class name ts) = EachThere ts
PartsThere (items ts) = EachThere ts
PartsThere (elements ts) = EachThere ts
PartsThere (entries es) = EntriesThere es

each_there : (scope : Name) (t : TypeTree) (ts : List Tester) → EachThere ts → IfThere (each scope t ts)
each_there scope t [] h = tt
each_there scope t (tester ∷ ts) h = both_there (tester scope t) (each scope t ts) (h.0 scope t) (each_there scope t ts h.1)

entries_there : (scope : Name) (key value : TypeTree) (es : List (Tester × Tester)) → EntriesThere es → IfThere (each_entry scope key value es)
entries_there scope key value [] h = tt
entries_there scope key value (e ∷ es) h =
    both_there (e.0 scope key) (both (e.1 scope value) (each_entry scope key value es)) (h.0 scope key)
    (both_there (e.1 scope value) (each_entry scope key value es) (h.1 scope value) (entries_there scope key value es h.2))

factors_there : (scope : Name) (types : TypeTrees) (ts : List Tester) → EachThere ts → IfThere (each_factor scope types ts)
factors_there scope no_types [] h = tt
factors_there scope no_types (tester ∷ ts) h = tt
factors_there scope (one_type t types) [] h = tt
factors_there scope (one_type t types) (tester ∷ ts) h =
    both_there (tester scope t) (each_factor scope types ts) (h.0 scope t) (factors_there scope types ts h.1)

fields_there : (scope : Name) (fields : List FieldTree) (ts : List Tester) → EachThere ts → IfThere (each_field scope fields ts)
fields_there scope [] [] h = tt
fields_there scope [] (tester ∷ ts) h = tt
fields_there scope (field ∷ fields) [] h = tt
fields_there scope (field ∷ fields) (tester ∷ ts) h =
    both_there (tester scope field.declared) (each_field scope fields ts) (h.0 scope field.declared) (fields_there scope fields ts h.1)

-- ---- what is done with parts

module _ (further : List Tester → Option Tests) (there : (ts : List Tester) → EachThere ts → IfThere (further ts)) where
  elements_there : (parts : Parts) → PartsThere parts → IfThere (on_elements parts further)
  elements_there (elements ts) h = there ts h
  elements_there parts h = tt

  items_there : (parts : Parts) → PartsThere parts → IfThere (on_items parts further)
  items_there (items ts) h = there ts h
  items_there parts h = tt

  some_items_there : (parts : Parts) → PartsThere parts → IfThere (on_some_items parts further)
  some_items_there (items []) h = tt
  some_items_there (items (tester ∷ ts)) h = there (tester ∷ ts) h
  some_items_there parts h = tt

  tuple_there : (parts : Parts) → PartsThere parts → IfThere (on_tuple parts further)
  tuple_there (tuple_parts ts) h = there ts h
  tuple_there parts h = tt

  record_there : (class name : Name) (parts : Parts) → PartsThere parts → IfThere (on_record class name parts further)
  record_there class name (record_parts other_class other ts) h =
      if_there (is_same_name class other_class && is_same_name name other) (further ts) None (there ts h) tt
  record_there class name parts h = tt

map_there : (scope : Name) (key value : TypeTree) (parts : Parts) → PartsThere parts → IfThere (on_entries parts (each_entry scope key value))
map_there scope key value (entries es) h = entries_there scope key value es h
map_there scope key value parts h = tt

-- ---- types

module _ (find : Finder) (descends : Name → Name → Bool) where
  class_there : (class : Option Name) (name : Name) (v : ValueTree) → IfThere (class_test find descends class name v)
  class_there None name v = plainly_there (is_object_of find descends name v)
  class_there (Some class) name v = tt

  module _ (v : ValueTree) (parts : Parts) (takes : TypeDefTree → Option Tests) (there : PartsThere parts)
      (taken : (d : TypeDefTree) → IfThere (takes d)) where
    name_there : (t : TypeName) (found : Option TypeDefTree) → IfThere (name_test find descends v parts takes t found)
    name_there t (Some d) = taken d
    name_there t None = class_there t.class t.name v

    mutual
      type_there : (scope : Name) (t : TypeTree) → IfThere (type_test find descends v parts takes scope t)
      type_there scope (basic_type basic place) = plainly_there (is_of_basic basic v)
      type_there scope (quote_type name place) = plainly_there (is_quote name v)
      type_there scope (set_type element place) = elements_there (each scope element) (each_there scope element) parts there
      type_there scope (seq_type item place) = items_there (each scope item) (each_there scope item) parts there
      type_there scope (seq1_type item place) = some_items_there (each scope item) (each_there scope item) parts there
      type_there scope (map_type key value place) = map_there scope key value parts there
      type_there scope (inmap_type key value place) =
          if_there (has_distinct_values v) (on_entries parts (each_entry scope key value)) None (map_there scope key value parts there) tt
      type_there scope (optional_type inner place) =
          if_there (is_nil v) (Some no_tests) (type_test find descends v parts takes scope inner) tt (type_there scope inner)
      type_there scope (bracketed_type inner place) = type_there scope inner
      type_there scope (named_type t place) = name_there t (find scope t.class t.name)
      type_there scope (product_type factors place) = tuple_there (each_factor scope factors) (factors_there scope factors) parts there
      type_there scope (union_type types place) = one_there (choices find descends v parts takes scope types) (choices_there scope types)

      choices_there : (scope : Name) (types : TypeTrees) → AllThere (choices find descends v parts takes scope types)
      choices_there scope no_types = tt
      choices_there scope (one_type t types) =
          choice_there (type_test find descends v parts takes scope t) (choices find descends v parts takes scope types)
          (type_there scope t) (choices_there scope types)

    body_there : (d : TypeDefTree) (body : TypeBody) → IfThere (body_test find descends v parts takes d body)
    body_there d (same_as declared) = type_there d.class declared
    body_there d (with_fields fields) =
        record_there (each_field d.class fields) (fields_there d.class fields) d.class d.name parts there

  own_there : (d : TypeDefTree) (v : ValueTree) (i : Option InvariantTree) → d.invariant ≡ i → AreThere (own_test find descends d v i)
  own_there d v None e = tt
  own_there d v (Some i) e = ((i, e), tt)

  definition_there : (n : ℕ) (v : ValueTree) (parts : Parts) → PartsThere parts → (d : TypeDefTree)
      → IfThere (definition_test find descends n v parts d)
  definition_there zero v parts there d = tt
  definition_there (suc n) v parts there d =
      both_there (body_test find descends v parts (definition_test find descends n v parts) d d.body) (Some (own_test find descends d v d.invariant))
      (body_there v parts (definition_test find descends n v parts) there (definition_there n v parts there) d d.body)
      (own_there d v d.invariant refl)

  -- ---- values

  module _ (rank : TypeDefTree → ℕ) where
    value_there : (v : ValueTree) (parts : Parts) → PartsThere parts
        → IsTester (type_test find descends v parts (opened find descends rank v parts))
    value_there v parts there =
        type_there v parts (opened find descends rank v parts) there (λ found. definition_there (suc (rank found)) v parts there found)

    mutual
      parts_there : (v : ValueTree) → PartsThere (parts_of find descends rank v)
      parts_there (tuple vs) = testers_there vs
      parts_there (record_of class name vs) = testers_there vs
      parts_there (sequence vs) = testers_there vs
      parts_there (set_of vs) = testers_there vs
      parts_there (map_of ps) = entry_testers_there ps
      parts_there v = tt

      testers_there : (vs : ValueTrees) → EachThere (testers find descends rank vs)
      testers_there no_values = tt
      testers_there (one_value v vs) = (value_there v (parts_of find descends rank v) (parts_there v), testers_there vs)

      entry_testers_there : (ps : PairTrees) → EntriesThere (entry_testers find descends rank ps)
      entry_testers_there no_pairs = tt
      entry_testers_there (one_pair k v ps) = (
        value_there k (parts_of find descends rank k) (parts_there k),
        value_there v (parts_of find descends rank v) (parts_there v),
        entry_testers_there ps,
      )

    pub tests_there : (v : ValueTree) (scope : Name) (t : TypeTree) → IfThere (tests_of find descends rank v scope t)
    tests_there v = value_there v (parts_of find descends rank v) (parts_there v)

pub asked_there : (spec : SpecTree) (scope : Option Name) (t : TypeTree) (v : ValueTree) → AsksInvariants (fitting_in spec scope t v)
asked_there spec scope t v =
    fitting_asks (tests_of (finder spec) (descends spec) (type_rank spec) v (type_scope scope) t)
    (tests_there (finder spec) (descends spec) (type_rank spec) v (type_scope scope) t)
