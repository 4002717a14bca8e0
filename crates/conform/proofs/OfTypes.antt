-- What a type wants of a value, type by type.
use Rattle.std.proofs.Common.{◌≡◌, ℕ, Bool, true, false, List, [], ◌∷◌, map, Option, Some, None, Vec, Box, Global, if◌then◌else◌, rules, refl, ap, sym, ◌∙◌, option_map}
use Rattle.vdm_kinds.specs.declared.basic_type.BasicType.{BasicType}
use Rattle.vdm_kinds.specs.declared.name.Name.{Name}
use Rattle.vdm_kinds.specs.declared.name_at.TypeName.{TypeName}
use Rattle.vdm_kinds.specs.declared.place.Place.{Place}
use Rattle.abstract_syntax.specs.Types.{TypeTree, basic_type, quote_type, set_type, seq_type, seq1_type, map_type, inmap_type, optional_type, product_type}
use Rattle.abstract_syntax.specs.Classes.{TypeBody as TypeBodyTree, with_fields, FieldTree, TypeDefTree, is_same_name}
use Rattle.abstract_syntax.specs.Values.{ValueTree, nil, boolean, number, character, quote, token, tuple, record_of, sequence, set_of, map_of, object, ValueTrees, no_values, one_value, PairTrees, no_pairs, one_pair, value_list, pair_list}
use Rattle.expr_tree.specs.Alternatives.{Finder, IsRanked}
use Rattle.expr_tree.specs.declared.type_def.Field.{Field}
use Rattle.expr_tree.specs.declared.type_def.TypeDef.{TypeDef}
use Rattle.expr_tree.specs.declared.type_def.TypeBody.TheVariants.{Same, Fields}
use Rattle.expr_tree.specs.TypeDefView.{type_def_view, type_body_view, field_view}
use Rattle.type_tree.specs.declared.type_expr.TypeExpr.{TypeExpr, the_lemmas}
use Rattle.type_tree.specs.declared.type_expr.TypeExpr.TheVariants.{Basic, Quote, Set, Seq, Seq1, Map, InMap, Optional, Product, rolls-Basic, rolls-Quote, rolls-Set, rolls-Seq, rolls-Seq1, rolls-Map, rolls-InMap, rolls-Optional, rolls-Product}
use Rattle.type_tree.specs.TypeView.{type_view, type_views, type_trees}
use Rattle.type_meaning.specs.Tests.{Tests, no_tests, both}
use Rattle.type_meaning.specs.Shapes.{Tester, is_of_basic, is_quote, is_nil, has_distinct_values, plainly, Parts, each, each_entry, each_factor, each_field, on_elements, on_items, on_some_items, on_entries, on_tuple, on_record, parts_of, testers, entry_testers, tests_of, tests_by, with_own, name_test, class_test, body_test, opened}
use Rattle.type_meaning.specs.Opening.{by_body}
use Rattle.conform.specs.declared.goal.Next.{Next}
use Rattle.conform.specs.Frames.{plainly_next, elements_in, items_in, entries_in, components_in, fields_in, where_true, both_tested, on_list, on_some, on_pairs, next_tests, name_tests, body_tests}

view-Basic : (b : BasicType) (place : Place) → type_view (Basic b place) ≡ basic_type b place
view-Basic b place = ap type_view (sym (rolls-Basic b place)) ∙ search (rules, the_lemmas)

view-Quote : (n : Name) (place : Place) → type_view (Quote n place) ≡ quote_type n place
view-Quote n place = ap type_view (sym (rolls-Quote n place)) ∙ search (rules, the_lemmas)

view-Set : (e : Box TypeExpr Global) (place : Place) → type_view (Set e place) ≡ set_type (type_view e.value) place
view-Set e place = ap type_view (sym (rolls-Set e place)) ∙ search (rules, the_lemmas)

view-Seq : (e : Box TypeExpr Global) (place : Place) → type_view (Seq e place) ≡ seq_type (type_view e.value) place
view-Seq e place = ap type_view (sym (rolls-Seq e place)) ∙ search (rules, the_lemmas)

view-Seq1 : (e : Box TypeExpr Global) (place : Place) → type_view (Seq1 e place) ≡ seq1_type (type_view e.value) place
view-Seq1 e place = ap type_view (sym (rolls-Seq1 e place)) ∙ search (rules, the_lemmas)

view-Map : (k e : Box TypeExpr Global) (place : Place) → type_view (Map k e place) ≡ map_type (type_view k.value) (type_view e.value) place
view-Map k e place = ap type_view (sym (rolls-Map k e place)) ∙ search (rules, the_lemmas)

view-InMap : (k e : Box TypeExpr Global) (place : Place) → type_view (InMap k e place) ≡ inmap_type (type_view k.value) (type_view e.value) place
view-InMap k e place = ap type_view (sym (rolls-InMap k e place)) ∙ search (rules, the_lemmas)

view-Optional : (e : Box TypeExpr Global) (place : Place) → type_view (Optional e place) ≡ optional_type (type_view e.value) place
view-Optional e place = ap type_view (sym (rolls-Optional e place)) ∙ search (rules, the_lemmas)

view-Product : (factors : Vec TypeExpr Global) (place : Place) → type_view (Product factors place) ≡ product_type (type_trees (type_views factors.items)) place
view-Product factors place = ap type_view (sym (rolls-Product factors place)) ∙ search (rules, the_lemmas)

module _ (find : Finder) (descends : Name → Name → Bool) (rank : TypeDefTree → ℕ) where
  -- ---- parts by how they are tested

  testers_listed : (vs : ValueTrees) → testers find descends rank vs ≡ map (tests_of find descends rank) (value_list vs)
  testers_listed no_values = refl
  testers_listed (one_value v vs) = ap (λ ts. tests_of find descends rank v ∷ ts) (testers_listed vs)

  entries_listed : (ps : PairTrees) → entry_testers find descends rank ps ≡ map (both_tested find descends rank) (pair_list ps)
  entries_listed no_pairs = refl
  entries_listed (one_pair k v ps) = ap (λ ts. (tests_of find descends rank k, tests_of find descends rank v) ∷ ts) (entries_listed ps)

  elements_listed : (v : ValueTree) (f : List Tester → Option Tests) → on_list find descends rank (elements_in v) f ≡ on_elements (parts_of find descends rank v) f
  elements_listed (set_of vs) f = ap f (sym (testers_listed vs))
  elements_listed nil f = refl
  elements_listed (boolean b) f = refl
  elements_listed (number n) f = refl
  elements_listed (character c) f = refl
  elements_listed (quote q) f = refl
  elements_listed (token v) f = refl
  elements_listed (tuple vs) f = refl
  elements_listed (record_of c n vs) f = refl
  elements_listed (sequence vs) f = refl
  elements_listed (map_of ps) f = refl
  elements_listed (object n c) f = refl

  items_listed : (v : ValueTree) (f : List Tester → Option Tests) → on_list find descends rank (items_in v) f ≡ on_items (parts_of find descends rank v) f
  items_listed (sequence vs) f = ap f (sym (testers_listed vs))
  items_listed nil f = refl
  items_listed (boolean b) f = refl
  items_listed (number n) f = refl
  items_listed (character c) f = refl
  items_listed (quote q) f = refl
  items_listed (token v) f = refl
  items_listed (tuple vs) f = refl
  items_listed (record_of c n vs) f = refl
  items_listed (set_of vs) f = refl
  items_listed (map_of ps) f = refl
  items_listed (object n c) f = refl

  some_listed : (v : ValueTree) (f : List Tester → Option Tests) → on_some find descends rank (items_in v) f ≡ on_some_items (parts_of find descends rank v) f
  some_listed (sequence no_values) f = refl
  some_listed (sequence (one_value v vs)) f = ap (λ ts. f (tests_of find descends rank v ∷ ts)) (sym (testers_listed vs))
  some_listed nil f = refl
  some_listed (boolean b) f = refl
  some_listed (number n) f = refl
  some_listed (character c) f = refl
  some_listed (quote q) f = refl
  some_listed (token v) f = refl
  some_listed (tuple vs) f = refl
  some_listed (record_of c n vs) f = refl
  some_listed (set_of vs) f = refl
  some_listed (map_of ps) f = refl
  some_listed (object n c) f = refl

  pairs_listed : (v : ValueTree) (f : List (Tester × Tester) → Option Tests) → on_pairs find descends rank (entries_in v) f ≡ on_entries (parts_of find descends rank v) f
  pairs_listed (map_of ps) f = ap f (sym (entries_listed ps))
  pairs_listed nil f = refl
  pairs_listed (boolean b) f = refl
  pairs_listed (number n) f = refl
  pairs_listed (character c) f = refl
  pairs_listed (quote q) f = refl
  pairs_listed (token v) f = refl
  pairs_listed (tuple vs) f = refl
  pairs_listed (record_of c n vs) f = refl
  pairs_listed (sequence vs) f = refl
  pairs_listed (set_of vs) f = refl
  pairs_listed (object n c) f = refl

  components_listed : (v : ValueTree) (f : List Tester → Option Tests) → on_list find descends rank (components_in v) f ≡ on_tuple (parts_of find descends rank v) f
  components_listed (tuple vs) f = ap f (sym (testers_listed vs))
  components_listed nil f = refl
  components_listed (boolean b) f = refl
  components_listed (number n) f = refl
  components_listed (character c) f = refl
  components_listed (quote q) f = refl
  components_listed (token v) f = refl
  components_listed (record_of c n vs) f = refl
  components_listed (sequence vs) f = refl
  components_listed (set_of vs) f = refl
  components_listed (map_of ps) f = refl
  components_listed (object n c) f = refl

  by_same : (same : Bool) (vs : ValueTrees) (f : List Tester → Option Tests)
      → on_list find descends rank (if same then Some (value_list vs) else None) f ≡ (if same then f (testers find descends rank vs) else None)
  by_same true vs f = ap f (sym (testers_listed vs))
  by_same false vs f = refl

  fields_listed : (class name : Name) (v : ValueTree) (f : List Tester → Option Tests)
      → on_list find descends rank (fields_in class name v) f ≡ on_record class name (parts_of find descends rank v) f
  fields_listed class name (record_of c n vs) f = by_same _ vs f
  fields_listed class name nil f = refl
  fields_listed class name (boolean b) f = refl
  fields_listed class name (number n) f = refl
  fields_listed class name (character c) f = refl
  fields_listed class name (quote q) f = refl
  fields_listed class name (token v) f = refl
  fields_listed class name (tuple vs) f = refl
  fields_listed class name (sequence vs) f = refl
  fields_listed class name (set_of vs) f = refl
  fields_listed class name (map_of ps) f = refl
  fields_listed class name (object n c) f = refl

  -- ---- types of a word, quotes, `[T]`

  pub plainly_tests : (b : Bool) → next_tests find descends rank (plainly_next b) ≡ plainly b
  plainly_tests true = refl
  plainly_tests false = refl

  module _ (v : ValueTree) (scope : Name) (declared : TypeExpr) where
    pub of_basic : (b : BasicType) (place : Place) (next : Next) → declared ≡ Basic b place → next ≡ plainly_next (is_of_basic b v)
        → next_tests find descends rank next ≡ tests_of find descends rank v scope (type_view declared)
    of_basic b place next is e =
        ap (next_tests find descends rank) e ∙ plainly_tests (is_of_basic b v)
        ∙ ap (tests_of find descends rank v scope) (sym (ap type_view is ∙ view-Basic b place))

    pub of_quote : (n : Name) (place : Place) (next : Next) → declared ≡ Quote n place → next ≡ plainly_next (is_quote n v)
        → next_tests find descends rank next ≡ tests_of find descends rank v scope (type_view declared)
    of_quote n place next is e =
        ap (next_tests find descends rank) e ∙ plainly_tests (is_quote n v)
        ∙ ap (tests_of find descends rank v scope) (sym (ap type_view is ∙ view-Quote n place))

    pub of_nil : (e : Box TypeExpr Global) (place : Place) → declared ≡ Optional e place → is_nil v ≡ true
        → Some no_tests ≡ tests_of find descends rank v scope (type_view declared)
    of_nil e place is nothing =
        sym (ap (λ b. if b then Some no_tests else tests_of find descends rank v scope (type_view e.value)) nothing)
        ∙ ap (tests_of find descends rank v scope) (sym (ap type_view is ∙ view-Optional e place))

    -- ---- types of values with parts

    pub of_set : (t : TypeExpr) (e : Box TypeExpr Global) (place : Place) (o : Option (List ValueTree)) → t ≡ e.value → declared ≡ Set e place → o ≡ elements_in v
        → on_list find descends rank o (each scope (type_view t)) ≡ tests_of find descends rank v scope (type_view declared)
    of_set t e place o same is parts =
        ap (λ x. on_list find descends rank o (each scope (type_view x))) same
        ∙ ap (λ x. on_list find descends rank x (each scope (type_view e.value))) parts
        ∙ elements_listed v (each scope (type_view e.value))
        ∙ ap (tests_of find descends rank v scope) (sym (ap type_view is ∙ view-Set e place))

    pub of_seq : (t : TypeExpr) (e : Box TypeExpr Global) (place : Place) (o : Option (List ValueTree)) → t ≡ e.value → declared ≡ Seq e place → o ≡ items_in v
        → on_list find descends rank o (each scope (type_view t)) ≡ tests_of find descends rank v scope (type_view declared)
    of_seq t e place o same is parts =
        ap (λ x. on_list find descends rank o (each scope (type_view x))) same
        ∙ ap (λ x. on_list find descends rank x (each scope (type_view e.value))) parts
        ∙ items_listed v (each scope (type_view e.value))
        ∙ ap (tests_of find descends rank v scope) (sym (ap type_view is ∙ view-Seq e place))

    pub of_seq1 : (t : TypeExpr) (e : Box TypeExpr Global) (place : Place) (o : Option (List ValueTree)) → t ≡ e.value → declared ≡ Seq1 e place → o ≡ items_in v
        → on_some find descends rank o (each scope (type_view t)) ≡ tests_of find descends rank v scope (type_view declared)
    of_seq1 t e place o same is parts =
        ap (λ x. on_some find descends rank o (each scope (type_view x))) same
        ∙ ap (λ x. on_some find descends rank x (each scope (type_view e.value))) parts
        ∙ some_listed v (each scope (type_view e.value))
        ∙ ap (tests_of find descends rank v scope) (sym (ap type_view is ∙ view-Seq1 e place))

    pub of_map : (s t : TypeExpr) (k e : Box TypeExpr Global) (place : Place) (o : Option (List (ValueTree × ValueTree))) → s ≡ k.value → t ≡ e.value → declared ≡ Map k e place → o ≡ entries_in v
        → on_pairs find descends rank o (each_entry scope (type_view s) (type_view t)) ≡ tests_of find descends rank v scope (type_view declared)
    of_map s t k e place o first second is parts =
        ap (λ x. on_pairs find descends rank o (each_entry scope (type_view x) (type_view t))) first
        ∙ ap (λ x. on_pairs find descends rank o (each_entry scope (type_view k.value) (type_view x))) second
        ∙ ap (λ x. on_pairs find descends rank x (each_entry scope (type_view k.value) (type_view e.value))) parts
        ∙ pairs_listed v (each_entry scope (type_view k.value) (type_view e.value))
        ∙ ap (tests_of find descends rank v scope) (sym (ap type_view is ∙ view-Map k e place))

    distinct : (b : Bool) (r : Option Tests) → where_true b r ≡ (if b then r else None)
    distinct true r = refl
    distinct false r = refl

    pub of_inmap : (s t : TypeExpr) (k e : Box TypeExpr Global) (place : Place) → s ≡ k.value → t ≡ e.value → declared ≡ InMap k e place
        → where_true (has_distinct_values v) (on_pairs find descends rank (entries_in v) (each_entry scope (type_view s) (type_view t)))
        ≡ tests_of find descends rank v scope (type_view declared)
    of_inmap s t k e place first second is =
        ap (λ x. where_true (has_distinct_values v) (on_pairs find descends rank (entries_in v) (each_entry scope (type_view x) (type_view t)))) first
        ∙ ap (λ x. where_true (has_distinct_values v) (on_pairs find descends rank (entries_in v) (each_entry scope (type_view k.value) (type_view x)))) second
        ∙ distinct (has_distinct_values v) (on_pairs find descends rank (entries_in v) (each_entry scope (type_view k.value) (type_view e.value)))
        ∙ ap (λ r. if has_distinct_values v then r else None) (pairs_listed v (each_entry scope (type_view k.value) (type_view e.value)))
        ∙ ap (tests_of find descends rank v scope) (sym (ap type_view is ∙ view-InMap k e place))

    pub of_product : (ts : Vec TypeExpr Global) (place : Place) (us : List TypeExpr) (o : Option (List ValueTree)) → declared ≡ Product ts place
        → us ≡ ts.items → o ≡ components_in v
        → on_list find descends rank o (each_factor scope (type_trees (type_views us))) ≡ tests_of find descends rank v scope (type_view declared)
    of_product ts place us o is those parts =
        ap (λ xs. on_list find descends rank o (each_factor scope (type_trees (type_views xs)))) those
        ∙ ap (λ x. on_list find descends rank x (each_factor scope (type_trees (type_views ts.items)))) parts
        ∙ components_listed v (each_factor scope (type_trees (type_views ts.items)))
        ∙ ap (tests_of find descends rank v scope) (sym (ap type_view is ∙ view-Product ts place))

  -- ---- named types

  pub record_body : (d : TypeDef) (fs : Vec Field Global) (gs : List Field) (v : ValueTree) (o : Option (List ValueTree)) → d.body ≡ Fields fs → gs ≡ fs.items
      → o ≡ fields_in d.class d.name v
      → on_list find descends rank o (each_field d.class (map field_view gs)) ≡ body_tests find descends rank v (type_def_view d)
  record_body d fs gs v o is those parts =
      ap (λ x. on_list find descends rank x (each_field d.class (map field_view gs))) parts
      ∙ fields_listed d.class d.name v (each_field d.class (map field_view gs))
      ∙ ap (λ xs. on_record d.class d.name (parts_of find descends rank v) (each_field d.class (map field_view xs))) those
      ∙ ap (λ b. body_test find descends v (parts_of find descends rank v) (opened find descends rank v (parts_of find descends rank v)) (type_def_view d) (type_body_view b)) (sym is)

  pub same_body : (d : TypeDef) (declared : TypeExpr) (v : ValueTree) → d.body ≡ Same declared
      → tests_of find descends rank v d.class (type_view declared) ≡ body_tests find descends rank v (type_def_view d)
  same_body d declared v is =
      ap (λ b. body_test find descends v (parts_of find descends rank v) (opened find descends rank v (parts_of find descends rank v)) (type_def_view d) (type_body_view b)) (sym is)

  pub by_definition : IsRanked find rank → (v : ValueTree) (scope : Name) (t : TypeName) (d : TypeDefTree) → find scope t.class t.name ≡ Some d
      → with_own find descends d v (body_tests find descends rank v d) ≡ name_tests find descends rank v t (find scope t.class t.name)
  by_definition ranked v scope t d is =
      sym (by_body find descends rank ranked v scope t.class t.name d is) ∙ ap (name_tests find descends rank v t) (sym is)

  pub by_class : (v : ValueTree) (t : TypeName) (r : Option TypeDefTree) (next : Next) → r ≡ None
      → next_tests find descends rank next ≡ class_test find descends t.class t.name v
      → next_tests find descends rank next ≡ name_tests find descends rank v t r
  by_class v t r next is e = e ∙ ap (name_tests find descends rank v t) (sym is)
