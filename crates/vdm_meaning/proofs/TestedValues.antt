-- The invariants that a type wants of a value are asked of the value and its parts: each object in those is one of the value's.
use Rattle.std.proofs.Common.{[], ◌∷◌, ◌&&◌, Bool, IfSome, List, None, Option, Some, false, if◌then◌else◌, suc, true, zero, ℕ}
use Rattle.std.specs.List.{AllByRecursion as Each}
use Rattle.vdm_kinds.specs.declared.name.Name.{Name}
use Rattle.vdm_kinds.specs.declared.name_at.TypeName.{TypeName}
use Rattle.abstract_syntax.specs.Types.{TypeTree, TypeTrees, basic_type, quote_type, set_type, seq_type, seq1_type, map_type, inmap_type, optional_type, bracketed_type, named_type, product_type, union_type, no_types, one_type}
use Rattle.abstract_syntax.specs.Classes.{FieldTree, InvariantTree, TypeBody, TypeDefTree, is_same_name, same_as, with_fields}
use Rattle.abstract_syntax.specs.Values.{PairTrees, ValueTree, ValueTrees, map_of, no_pairs, no_values, one_pair, one_value, record_of, sequence, set_of, tuple}
use Rattle.value_parts.specs.Objects.{EachObject, EachObjectIn, EachObjectInPairs}
use Rattle.type_meaning.specs.Tests.{Choices, Decision, Fitting, Tests, asks, both, choice, decided, fits, fitting, followed_by, holds, no_choices, no_tests, one_holds, one_of, tested, tried, with_choice, wrong_invariant}
use Rattle.type_meaning.specs.Shapes.{Parts, Tester, body_test, choices, class_test, definition_test, each, each_entry, each_factor, each_field, elements, entries, entry_testers, has_distinct_values, is_nil, is_object_of, is_of_basic, is_quote, items, name_test, no_parts, on_elements, on_entries, on_items, on_record, on_some_items, on_tuple, opened, own_test, parts_of, plainly, record_parts, testers, tests_of, tuple_parts, type_test}

-- ---- each value of which an invariant has to hold has a property

module _ (Q : ValueTree → Type 0) where
  abbrev mutual
    pub EachTested : Tests → Type 0
    EachTested no_tests = Unit {0}
    EachTested (holds d v tests) = Q v × EachTested tests
    EachTested (one_holds alternatives tests) = EachChosen alternatives × EachTested tests

    pub EachChosen : Choices → Type 0
    EachChosen no_choices = Unit {0}
    EachChosen (choice tests others) = EachTested tests × EachChosen others

  abbrev pub EachAsked : Decision Fitting → Type 0
  EachAsked (decided found) = Unit {0}
  EachAsked (asks d v met unmet) = Q v × EachAsked met × EachAsked unmet

  mutual
    tested-asked : (tests : Tests) (met unmet : Decision Fitting) → EachTested tests → EachAsked met → EachAsked unmet → EachAsked (tested tests met unmet)
    tested-asked no_tests met unmet h k l = k
    tested-asked (holds d v tests) met unmet h k l = (h.0, tested-asked tests met unmet h.1 k l, l)
    tested-asked (one_holds alternatives tests) met unmet h k l = tried-asked alternatives (tested tests met unmet) unmet h.0 (tested-asked tests met unmet h.1 k l) l

    tried-asked : (alternatives : Choices) (met unmet : Decision Fitting) → EachChosen alternatives → EachAsked met → EachAsked unmet → EachAsked (tried alternatives met unmet)
    tried-asked no_choices met unmet h k l = l
    tried-asked (choice tests others) met unmet h k l = tested-asked tests met (tried others met unmet) h.0 k (tried-asked others met unmet h.1 k l)

  pub fitting-asked : (found : Option Tests) → IfSome found EachTested → EachAsked (fitting found)
  fitting-asked None h = tt
  fitting-asked (Some tests) h = tested-asked tests (decided fits) (decided wrong_invariant) h tt tt

pub asked-wider : (Q R : ValueTree → Type 0) → ((v : ValueTree) → Q v → R v) → (decision : Decision Fitting) → EachAsked Q decision → EachAsked R decision
asked-wider Q R wider (decided found) h = tt
asked-wider Q R wider (asks d v met unmet) h = (wider v h.0, asked-wider Q R wider met h.1, asked-wider Q R wider unmet h.2)

-- ---- what a type wants of a value whose objects have a property

module _ (P : ℕ → Name → Type 0) where
  abbrev Keeps : Option Tests → Type 0
  Keeps found = IfSome found (EachTested (EachObject P))

  -- whatever type the part is tested against
  abbrev PartKeeps : Tester → Type 0
  PartKeeps tester = (scope : Name) (t : TypeTree) → Keeps (tester scope t)

  abbrev EntryKeeps : Tester × Tester → Type 0
  EntryKeeps entry = PartKeeps entry.0 × PartKeeps entry.1

  abbrev PartsKeep : Parts → Type 0
  PartsKeep no_parts = Unit {0}
  PartsKeep (tuple_parts parts) = Each PartKeeps parts
  PartsKeep (record_parts class name parts) = Each PartKeeps parts
  PartsKeep (items parts) = Each PartKeeps parts
  PartsKeep (elements parts) = Each PartKeeps parts
  PartsKeep (entries parts) = Each EntryKeeps parts

  -- ---- tests in turn

  followed-keeps : (tests others : Tests) → EachTested (EachObject P) tests → EachTested (EachObject P) others → EachTested (EachObject P) (followed_by tests others)
  followed-keeps no_tests others h k = k
  followed-keeps (holds d v tests) others h k = (h.0, followed-keeps tests others h.1 k)
  followed-keeps (one_holds alternatives tests) others h k = (h.0, followed-keeps tests others h.1 k)

  both-keeps : (a b : Option Tests) → Keeps a → Keeps b → Keeps (both a b)
  both-keeps (Some tests) (Some others) h k = followed-keeps tests others h k
  both-keeps _ _ h k = tt

  if-keeps : (b : Bool) (one other : Option Tests) → Keeps one → Keeps other → Keeps (if b then one else other)
  if-keeps true one other h k = h
  if-keeps false one other h k = k

  plainly-keeps : (b : Bool) → Keeps (plainly b)
  plainly-keeps true = tt
  plainly-keeps false = tt

  with_choice-keeps : (found : Option Tests) (alternatives : Choices) → Keeps found → EachChosen (EachObject P) alternatives → EachChosen (EachObject P) (with_choice found alternatives)
  with_choice-keeps None alternatives h k = k
  with_choice-keeps (Some tests) alternatives h k = (h, k)

  one_of-keeps : (alternatives : Choices) → EachChosen (EachObject P) alternatives → Keeps (one_of alternatives)
  one_of-keeps no_choices h = tt
  one_of-keeps (choice no_tests others) h = tt
  one_of-keeps (choice (holds d v tests) others) h = (h, tt)
  one_of-keeps (choice (one_holds alternatives tests) others) h = (h, tt)

  -- ---- parts

  each-keeps : (scope : Name) (t : TypeTree) (parts : List Tester) → Each PartKeeps parts → Keeps (each scope t parts)
  each-keeps scope t [] h = tt
  each-keeps scope t (part ∷ parts) h = both-keeps (part scope t) (each scope t parts) (h.0 scope t) (each-keeps scope t parts h.1)

  each_entry-keeps : (scope : Name) (key value : TypeTree) (parts : List (Tester × Tester)) → Each EntryKeeps parts → Keeps (each_entry scope key value parts)
  each_entry-keeps scope key value [] h = tt
  each_entry-keeps scope key value (part ∷ parts) h =
      both-keeps (part.0 scope key) (both (part.1 scope value) (each_entry scope key value parts)) (h.0.0 scope key)
      (both-keeps (part.1 scope value) (each_entry scope key value parts) (h.0.1 scope value) (each_entry-keeps scope key value parts h.1))

  each_factor-keeps : (scope : Name) (factors : TypeTrees) (parts : List Tester) → Each PartKeeps parts → Keeps (each_factor scope factors parts)
  each_factor-keeps scope no_types [] h = tt
  each_factor-keeps scope (one_type t ts) (part ∷ parts) h = both-keeps (part scope t) (each_factor scope ts parts) (h.0 scope t) (each_factor-keeps scope ts parts h.1)
  each_factor-keeps scope _ _ h = tt

  each_field-keeps : (scope : Name) (fields : List FieldTree) (parts : List Tester) → Each PartKeeps parts → Keeps (each_field scope fields parts)
  each_field-keeps scope [] [] h = tt
  each_field-keeps scope (field ∷ fields) (part ∷ parts) h =
      both-keeps (part scope field.declared) (each_field scope fields parts) (h.0 scope field.declared) (each_field-keeps scope fields parts h.1)
  each_field-keeps scope _ _ h = tt

  module _ (further : List Tester → Option Tests) (goes : (parts : List Tester) → Each PartKeeps parts → Keeps (further parts)) where
    on_elements-keeps : (parts : Parts) → PartsKeep parts → Keeps (on_elements parts further)
    on_elements-keeps (elements parts) h = goes parts h
    on_elements-keeps _ h = tt

    on_items-keeps : (parts : Parts) → PartsKeep parts → Keeps (on_items parts further)
    on_items-keeps (items parts) h = goes parts h
    on_items-keeps _ h = tt

    on_some_items-keeps : (parts : Parts) → PartsKeep parts → Keeps (on_some_items parts further)
    on_some_items-keeps (items (part ∷ parts)) h = goes (part ∷ parts) h
    on_some_items-keeps _ h = tt

    on_tuple-keeps : (parts : Parts) → PartsKeep parts → Keeps (on_tuple parts further)
    on_tuple-keeps (tuple_parts parts) h = goes parts h
    on_tuple-keeps _ h = tt

    on_record-keeps : (class name : Name) (parts : Parts) → PartsKeep parts → Keeps (on_record class name parts further)
    on_record-keeps class name (record_parts other_class other parts) h =
        if-keeps (is_same_name class other_class && is_same_name name other) (further parts) None (goes parts h) tt
    on_record-keeps class name _ h = tt

  on_entries-keeps : (further : List (Tester × Tester) → Option Tests) → ((parts : List (Tester × Tester)) → Each EntryKeeps parts → Keeps (further parts)) → (parts : Parts) → PartsKeep parts → Keeps (on_entries parts further)
  on_entries-keeps further goes (entries parts) h = goes parts h
  on_entries-keeps further goes _ h = tt

  -- ---- types

  module _ (find : Name → Option Name → Name → Option TypeDefTree) (descends : Name → Name → Bool) where
    class_test-keeps : (class : Option Name) (name : Name) (v : ValueTree) → Keeps (class_test find descends class name v)
    class_test-keeps None name v = plainly-keeps (is_object_of find descends name v)
    class_test-keeps (Some class) name v = tt

    module _ (v : ValueTree) (parts : Parts) (takes : TypeDefTree → Option Tests) (kept : PartsKeep parts) (each_taken : (d : TypeDefTree) → Keeps (takes d)) where
      name_test-keeps : (t : TypeName) (found : Option TypeDefTree) → Keeps (name_test find descends v parts takes t found)
      name_test-keeps t (Some d) = each_taken d
      name_test-keeps t None = class_test-keeps t.class t.name v

      mutual
        type_test-keeps : (t : TypeTree) (scope : Name) → Keeps (type_test find descends v parts takes scope t)
        type_test-keeps (basic_type basic place) scope = plainly-keeps (is_of_basic basic v)
        type_test-keeps (quote_type name place) scope = plainly-keeps (is_quote name v)
        type_test-keeps (set_type element place) scope = on_elements-keeps (each scope element) (each-keeps scope element) parts kept
        type_test-keeps (seq_type item place) scope = on_items-keeps (each scope item) (each-keeps scope item) parts kept
        type_test-keeps (seq1_type item place) scope = on_some_items-keeps (each scope item) (each-keeps scope item) parts kept
        type_test-keeps (map_type key value place) scope = on_entries-keeps (each_entry scope key value) (each_entry-keeps scope key value) parts kept
        type_test-keeps (inmap_type key value place) scope =
            if-keeps (has_distinct_values v) (on_entries parts (each_entry scope key value)) None
            (on_entries-keeps (each_entry scope key value) (each_entry-keeps scope key value) parts kept) tt
        type_test-keeps (optional_type inner place) scope =
            if-keeps (is_nil v) (Some no_tests) (type_test find descends v parts takes scope inner) tt (type_test-keeps inner scope)
        type_test-keeps (bracketed_type inner place) scope = type_test-keeps inner scope
        type_test-keeps (named_type t place) scope = name_test-keeps t (find scope t.class t.name)
        type_test-keeps (product_type factors place) scope = on_tuple-keeps (each_factor scope factors) (each_factor-keeps scope factors) parts kept
        type_test-keeps (union_type types place) scope = one_of-keeps (choices find descends v parts takes scope types) (choices-keep types scope)

        choices-keep : (types : TypeTrees) (scope : Name) → EachChosen (EachObject P) (choices find descends v parts takes scope types)
        choices-keep no_types scope = tt
        choices-keep (one_type t ts) scope =
            with_choice-keeps (type_test find descends v parts takes scope t) (choices find descends v parts takes scope ts) (type_test-keeps t scope) (choices-keep ts scope)

      body_test-keeps : (d : TypeDefTree) (body : TypeBody) → Keeps (body_test find descends v parts takes d body)
      body_test-keeps d (same_as declared) = type_test-keeps declared d.class
      body_test-keeps d (with_fields fields) = on_record-keeps (each_field d.class fields) (each_field-keeps d.class fields) d.class d.name parts kept

    own_test-keeps : (d : TypeDefTree) (v : ValueTree) (invariant : Option InvariantTree) → EachObject P v → EachTested (EachObject P) (own_test find descends d v invariant)
    own_test-keeps d v None h = tt
    own_test-keeps d v (Some invariant) h = (h, tt)

    definition_test-keeps : (n : ℕ) (v : ValueTree) (parts : Parts) (d : TypeDefTree) → EachObject P v → PartsKeep parts → Keeps (definition_test find descends n v parts d)
    definition_test-keeps zero v parts d h kept = tt
    definition_test-keeps (suc n) v parts d h kept =
        both-keeps (body_test find descends v parts (definition_test find descends n v parts) d d.body) (Some (own_test find descends d v d.invariant))
        (body_test-keeps v parts (definition_test find descends n v parts) kept (λ inner. definition_test-keeps n v parts inner h kept) d d.body)
        (own_test-keeps d v d.invariant h)

    -- ---- values with their parts

    module _ (rank : TypeDefTree → ℕ) where
      value-keeps : (v : ValueTree) → EachObject P v → PartsKeep (parts_of find descends rank v) → PartKeeps (tests_of find descends rank v)
      value-keeps v h kept scope t =
          let parts = parts_of find descends rank v in
          type_test-keeps v parts (opened find descends rank v parts) kept (λ d. definition_test-keeps (suc (rank d)) v parts d h kept) t scope

      mutual
        parts-keep : (v : ValueTree) → EachObject P v → PartsKeep (parts_of find descends rank v)
        parts-keep (tuple vs) h = testers-keep vs h
        parts-keep (record_of class name vs) h = testers-keep vs h
        parts-keep (sequence vs) h = testers-keep vs h
        parts-keep (set_of vs) h = testers-keep vs h
        parts-keep (map_of ps) h = entry_testers-keep ps h
        parts-keep v h = tt

        testers-keep : (vs : ValueTrees) → EachObjectIn P vs → Each PartKeeps (testers find descends rank vs)
        testers-keep no_values h = tt
        testers-keep (one_value v vs) h = (value-keeps v h.0 (parts-keep v h.0), testers-keep vs h.1)

        entry_testers-keep : (ps : PairTrees) → EachObjectInPairs P ps → Each EntryKeeps (entry_testers find descends rank ps)
        entry_testers-keep no_pairs h = tt
        entry_testers-keep (one_pair k v ps) h = ((value-keeps k h.0 (parts-keep k h.0), value-keeps v h.1 (parts-keep v h.1)), entry_testers-keep ps h.2)

      pub tests_of-keeps : (v : ValueTree) → EachObject P v → (scope : Name) (t : TypeTree) → IfSome (tests_of find descends rank v scope t) (EachTested (EachObject P))
      tests_of-keeps v h = value-keeps v h (parts-keep v h)
