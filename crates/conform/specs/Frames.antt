-- What a test of a shape that is going on comes to.
use Rattle.std.specs.Prelude.{ℕ, Bool, true, false, ◌&&◌, if◌then◌else◌, List, [], ◌∷◌, map, Option, Some, None}
use Rattle.vdm_kinds.specs.declared.name.Name.{Name}
use Rattle.vdm_kinds.specs.declared.name_at.TypeName.{TypeName}
use Rattle.abstract_syntax.specs.Types.{TypeTree, TypeTrees, no_types, one_type}
use Rattle.abstract_syntax.specs.Classes.{TypeDefTree, is_same_name}
use Rattle.abstract_syntax.specs.Values.{ValueTree, tuple, record_of, sequence, set_of, map_of, value_list, pair_list}
use Rattle.expr_tree.specs.Alternatives.{Finder}
use Rattle.expr_tree.specs.TypeDefView.{field_view, type_def_view}
use Rattle.type_tree.specs.TypeView.{type_view, type_views, type_trees}
use Rattle.type_meaning.specs.Tests.{Tests, no_tests, holds, one_holds, followed_by, both, one_of}
use Rattle.type_meaning.specs.Shapes.{Tester, tests_of, each, each_entry, each_factor, each_field, choices_of, with_own, body_test, name_test, parts_of, opened}
use Rattle.conform.specs.declared.test.Test.{Test}
use Rattle.conform.specs.declared.test.Test.TheVariants.{Holds as HoldsTest, OneHolds}
use Rattle.conform.specs.declared.goal.Goal.{Goal}
use Rattle.conform.specs.declared.goal.Next.{Next}
use Rattle.conform.specs.declared.goal.Next.TheVariants.{Fails, Holds, Tests as TestsGoal}
use Rattle.conform.specs.declared.frame.Frame.{Frame}
use Rattle.conform.specs.declared.frame.Frame.TheVariants.{Values, Entries, Entry, Factors, Fields, Own, Alternatives}

abbrev pub plainly_next : Bool → Next
plainly_next true = Holds
plainly_next false = Fails

-- ---- the parts of a value; None of a value of another kind

abbrev pub elements_in : ValueTree → Option (List ValueTree)
elements_in (set_of vs) = Some (value_list vs)
elements_in _ = None

abbrev pub items_in : ValueTree → Option (List ValueTree)
items_in (sequence vs) = Some (value_list vs)
items_in _ = None

abbrev pub entries_in : ValueTree → Option (List (ValueTree × ValueTree))
entries_in (map_of ps) = Some (pair_list ps)
entries_in _ = None

abbrev pub components_in : ValueTree → Option (List ValueTree)
components_in (tuple vs) = Some (value_list vs)
components_in _ = None

abbrev pub fields_in : Name → Name → ValueTree → Option (List ValueTree)
fields_in class name (record_of other_class other vs) =
    if is_same_name class other_class && is_same_name name other then Some (value_list vs) else None
fields_in class name _ = None

abbrev pub where_true : Bool → Option Tests → Option Tests
where_true true tests = tests
where_true false tests = None

abbrev pub rest_of : TypeTrees → TypeTrees
rest_of no_types = no_types
rest_of (one_type t ts) = ts

-- ---- what waits

module _ (find : Finder) (descends : Name → Name → Bool) (rank : TypeDefTree → ℕ) where
  abbrev pub both_tested : (ValueTree × ValueTree) → Tester × Tester
  both_tested p = (tests_of find descends rank p.0, tests_of find descends rank p.1)

  -- each part by how it is tested, where there are parts
  abbrev pub on_list : Option (List ValueTree) → (List Tester → Option Tests) → Option Tests
  on_list (Some vs) further = further (map (tests_of find descends rank) vs)
  on_list None further = None

  abbrev pub on_some : Option (List ValueTree) → (List Tester → Option Tests) → Option Tests
  on_some (Some (v ∷ vs)) further = further (map (tests_of find descends rank) (v ∷ vs))
  on_some (Some []) further = None
  on_some None further = None

  abbrev pub on_pairs : Option (List (ValueTree × ValueTree)) → (List (Tester × Tester) → Option Tests) → Option Tests
  on_pairs (Some ps) further = further (map both_tested ps)
  on_pairs None further = None

  -- what the body of a definition wants, and what a name does
  abbrev pub body_tests : ValueTree → TypeDefTree → Option Tests
  body_tests v d = body_test find descends v (parts_of find descends rank v) (opened find descends rank v (parts_of find descends rank v)) d d.body

  abbrev pub name_tests : ValueTree → TypeName → Option TypeDefTree → Option Tests
  name_tests v = name_test find descends v (parts_of find descends rank v) (opened find descends rank v (parts_of find descends rank v))

  abbrev pub with_found : Test → Tests → Tests
  with_found (HoldsTest d v) tests = holds (type_def_view d.now) v tests
  with_found (OneHolds scope types v) tests =
      one_holds (choices_of find descends rank v scope (type_trees (type_views types.now))) tests

  -- what was found
  abbrev pub found_in : List Test → Tests
  found_in [] = no_tests
  found_in (test ∷ tests) = with_found test (found_in tests)

  -- a union behind the first of its types, which is of another shape, wants nothing, or wants something
  abbrev pub chosen : Tests → Name → TypeTrees → ValueTree → Option Tests → Option Tests
  chosen before scope types v None = both (Some before) (one_of (choices_of find descends rank v scope (rest_of types)))
  chosen before scope types v (Some no_tests) = Some before
  chosen before scope types v (Some tests) =
      Some (followed_by before (one_holds (choices_of find descends rank v scope types) no_tests))

  -- what all comes to with what was found so far
  abbrev pub frame_then : Frame → Option Tests → Option Tests
  frame_then (Values scope t values) found = both found (each scope (type_view t.now) (map (tests_of find descends rank) values.now))
  frame_then (Entries scope key value entries) found =
      both found (each_entry scope (type_view key.now) (type_view value.now) (map both_tested entries.now))
  frame_then (Entry scope key value held entries) found =
      both found (both (tests_of find descends rank held.now scope (type_view value.now))
      (each_entry scope (type_view key.now) (type_view value.now) (map both_tested entries.now)))
  frame_then (Factors scope types values) found =
      both found (each_factor scope (type_trees (type_views types.now)) (map (tests_of find descends rank) values.now))
  frame_then (Fields scope fields values) found =
      both found (each_field scope (map field_view fields.now) (map (tests_of find descends rank) values.now))
  frame_then (Own d v) found = with_own find descends (type_def_view d.now) v.now found
  frame_then (Alternatives before scope types v) found =
      chosen (found_in before.items) scope (type_trees (type_views types.now)) v.now found

  -- the innermost is the last
  abbrev pub through : List Frame → Option Tests → Option Tests
  through [] found = found
  through (frame ∷ frames) found = frame_then frame (through frames found)

  -- what a step alone wants
  abbrev pub next_tests : Next → Option Tests
  next_tests Fails = None
  next_tests Holds = Some no_tests
  next_tests (TestsGoal goal) = tests_of find descends rank goal.value.now goal.scope (type_view goal.declared.now)

  abbrev pub result_of : Tests → Next → Option Tests
  result_of found Fails = None
  result_of found Holds = Some found
  result_of found (TestsGoal goal) = both (Some found) (tests_of find descends rank goal.value.now goal.scope (type_view goal.declared.now))

  abbrev pub stands : List Test → List Frame → Next → Option Tests
  stands found frames next = through frames (result_of (found_in found) next)
