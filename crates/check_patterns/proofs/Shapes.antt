-- The pure tree of each kind of pattern, and of slices with one at their head; what they bind.
use Rattle.std.proofs.Common.{◌≡◌, ℕ, zero, suc, ◌+◌, ◌-◌, ◌≤◌, List, [], ◌∷◌, ◌++◌, map, length, take, drop, get_or, rules, arith, Vec, Global, refl, ap, sym, ◌∙◌, append_assoc}
use Rattle.vdm_kinds.specs.declared.name.Name.{Name}
use Rattle.abstract_syntax.specs.Classes.{SpecTree}
use Rattle.abstract_syntax.specs.Expressions.{PatternTree, PatternTrees, bound, set_pattern, sequence_pattern, map_pattern, tuple_pattern, record_pattern, concatenation_pattern}
use Rattle.expr_tree.specs.declared.pattern.Pattern as rust
use Rattle.expr_tree.specs.declared.pattern.Pattern.{Pattern, the_lemmas}
use Rattle.expr_tree.specs.declared.pattern.MapletPattern.{MapletPattern}
use Rattle.expr_tree.specs.declared.pattern.Pattern.TheVariants.{rolls-Bound, rolls-Set, rolls-Sequence, rolls-Map, rolls-Tuple, rolls-Record, rolls-Concatenation}
use Rattle.expr_tree.specs.View.{pattern_view, pattern_views, pattern_trees, maplet_pattern_view, maplet_pattern_trees}
use Rattle.form_meaning.specs.Forms.{FormTree}
use Rattle.vdm_kinds.specs.declared.name_at.TypeName.{TypeName}
use Rattle.vdm_kinds.specs.declared.place.Place.{Place}
use Rattle.form_meaning.specs.Parts.{key, value}
use Rattle.class_checks.specs.Operators.{any_map, sequence_with}
use Rattle.class_checks.specs.Patterns.{elements_of, items_of, record_parts, pattern_count, binds, binds_each, binds_maplets, binds_parts, binds_fields, first_form, later_forms, parts_of}
use Rattle.class_checks.specs.Scopes.{LocalForm}
use Rattle.check_patterns.proofs.Counts.{count_of_patterns}

pub view-Bound : (name : _) (place : _) → pattern_view (rust.Bound name place) ≡ bound name place
view-Bound name place = ap pattern_view (sym (rolls-Bound name place)) ∙ search (rules, the_lemmas)

pub view-Set : (ps : _) (place : _) → pattern_view (rust.Set ps place) ≡ set_pattern (pattern_trees (pattern_views ps.items)) place
view-Set ps place = ap pattern_view (sym (rolls-Set ps place)) ∙ search (rules, the_lemmas)

pub view-Sequence : (ps : _) (place : _) → pattern_view (rust.Sequence ps place) ≡ sequence_pattern (pattern_trees (pattern_views ps.items)) place
view-Sequence ps place = ap pattern_view (sym (rolls-Sequence ps place)) ∙ search (rules, the_lemmas)

pub view-Map : (ms : _) (place : _) → pattern_view (rust.Map ms place) ≡ map_pattern (maplet_pattern_trees (map maplet_pattern_view ms.items)) place
view-Map ms place = ap pattern_view (sym (rolls-Map ms place)) ∙ search (rules, the_lemmas)

pub view-Tuple : (ps : _) (place : _) → pattern_view (rust.Tuple ps place) ≡ tuple_pattern (pattern_trees (pattern_views ps.items)) place
view-Tuple ps place = ap pattern_view (sym (rolls-Tuple ps place)) ∙ search (rules, the_lemmas)

pub view-Record : (t : _) (ps : _) (place : _) → pattern_view (rust.Record t ps place) ≡ record_pattern t (pattern_trees (pattern_views ps.items)) place
view-Record t ps place = ap pattern_view (sym (rolls-Record t ps place)) ∙ search (rules, the_lemmas)

pub view-Concatenation : (ps : _) (place : _) → pattern_view (rust.Concatenation ps place) ≡ concatenation_pattern (pattern_trees (pattern_views ps.items)) place
view-Concatenation ps place = ap pattern_view (sym (rolls-Concatenation ps place)) ∙ search (rules, the_lemmas)

whole_list : {A : Type 0} (ys : List A) → take (length ys) ys ≡ ys
whole_list [] = refl
whole_list (y ∷ ys) = ap (λ zs. y ∷ zs) (whole_list ys)

headed : {A : Type 0} (xs : List A) (x : A) → 1 ≤ length xs → x ≡ get_or xs 0 x → xs ≡ x ∷ take (length xs - 1) (drop 1 xs)
headed [] x h e = absurd (omega arith)
headed (y ∷ ys) x h e =
    let n : length ys ≡ suc (length ys) - 1 = omega arith in
    (λ i. sym e i ∷ sym (whole_list ys) i) ∙ ap (λ k. x ∷ take k ys) n

later_than : (forms : List FormTree) (i : ℕ) → drop (suc i) forms ≡ later_forms (drop i forms)
later_than [] zero = refl
later_than [] (suc i) = refl
later_than (form ∷ forms) zero = refl
later_than (form ∷ forms) (suc i) = later_than forms i

pub later_numbers : (forms : List FormTree) (i : ℕ) → drop (i + 1) forms ≡ later_forms (drop i forms)
later_numbers forms i =
    let more : i + 1 ≡ suc i = omega arith in
    ap (λ (n : ℕ). drop n forms) more ∙ later_than forms i

module _ (spec : SpecTree) (class : Name) where
  -- a field, and those behind it
  pub fields_headed : (ps : List Pattern) (p : Pattern) → 1 ≤ length ps → p ≡ get_or ps 0 p
      → (forms : List FormTree) (index next : ℕ) (field : FormTree) → field ≡ first_form (drop index forms) → next ≡ index + 1
      → binds spec class field (pattern_view p) ++ binds_fields spec class (drop next forms) (pattern_trees (pattern_views (take (length ps - 1) (drop 1 ps))))
      ≡ binds_fields spec class (drop index forms) (pattern_trees (pattern_views ps))
  fields_headed ps p some first forms index next field is_field is_next =
      let others : PatternTrees = pattern_trees (pattern_views (take (length ps - 1) (drop 1 ps))) in
      ap (λ (f : FormTree). binds spec class f (pattern_view p) ++ binds_fields spec class (drop next forms) others) is_field
      ∙ ap (λ (fs : List FormTree). binds spec class (first_form (drop index forms)) (pattern_view p) ++ binds_fields spec class fs others)
      (ap (λ (n : ℕ). drop n forms) is_next ∙ later_numbers forms index)
      ∙ ap (λ (qs : List Pattern). binds_fields spec class (drop index forms) (pattern_trees (pattern_views qs))) (sym (headed ps p some first))

  pub maplets_headed : (ms : List MapletPattern) (m : MapletPattern) → 1 ≤ length ms → m ≡ get_or ms 0 m
      → (keys values key value : FormTree) (k v : PatternTree) → key ≡ keys → value ≡ values → k ≡ (maplet_pattern_view m).key → v ≡ (maplet_pattern_view m).value
      → (binds spec class key k ++ binds spec class value v) ++ binds_maplets spec class keys values (maplet_pattern_trees (map maplet_pattern_view (take (length ms - 1) (drop 1 ms))))
      ≡ binds_maplets spec class keys values (maplet_pattern_trees (map maplet_pattern_view ms))
  maplets_headed ms m some first keys values key value k v same_key same_value is_key is_value =
      append_assoc (binds spec class key k) (binds spec class value v) _
      ∙ (λ i. binds spec class (same_key i) (is_key i) ++ (binds spec class (same_value i) (is_value i) ++ binds_maplets spec class keys values (maplet_pattern_trees (map maplet_pattern_view (take (length ms - 1) (drop 1 ms))))))
      ∙ ap (λ (qs : List MapletPattern). binds_maplets spec class keys values (maplet_pattern_trees (map maplet_pattern_view qs))) (sym (headed ms m some first))

  -- ---- what each kind binds, from the forms of its parts

  module _ (p : Pattern) (place : Place) (form : FormTree) where
    by_tree : (xs : List LocalForm) (tree : PatternTree) → pattern_view p ≡ tree → xs ≡ binds spec class form tree → xs ≡ binds spec class form (pattern_view p)
    by_tree xs tree seen e = e ∙ ap (binds spec class form) (sym seen)

    pub name_binds : (name : Name) → p ≡ rust.Bound name place → record { name = name; form = form } ∷ [] ≡ binds spec class form (pattern_view p)
    name_binds name shape = by_tree (record { name = name; form = form } ∷ []) _ (ap pattern_view shape ∙ view-Bound name place) refl

    module _ (ps : Vec Pattern Global) (items : List Pattern) (same : items ≡ ps.items) where
      pub set_binds : (elements : FormTree) → p ≡ rust.Set ps place → elements ≡ elements_of spec form
          → binds_each spec class elements (pattern_trees (pattern_views items)) ≡ binds spec class form (pattern_view p)
      set_binds elements shape is =
          by_tree _ _ (ap pattern_view shape ∙ view-Set ps place) (λ i. binds_each spec class (is i) (pattern_trees (pattern_views (same i))))

      pub sequence_binds : (item : FormTree) → p ≡ rust.Sequence ps place → item ≡ items_of spec form
          → binds_each spec class item (pattern_trees (pattern_views items)) ≡ binds spec class form (pattern_view p)
      sequence_binds item shape is =
          by_tree _ _ (ap pattern_view shape ∙ view-Sequence ps place) (λ i. binds_each spec class (is i) (pattern_trees (pattern_views (same i))))

      pub fronts_bind : (front : FormTree) → p ≡ rust.Concatenation ps place → front ≡ sequence_with (items_of spec form)
          → binds_each spec class front (pattern_trees (pattern_views items)) ≡ binds spec class form (pattern_view p)
      fronts_bind front shape is =
          by_tree _ _ (ap pattern_view shape ∙ view-Concatenation ps place) (λ i. binds_each spec class (is i) (pattern_trees (pattern_views (same i))))

      pub tuple_binds : (n : ℕ) → p ≡ rust.Tuple ps place → n ≡ length ps.items
          → binds_parts spec class form n 0 (pattern_trees (pattern_views items)) ≡ binds spec class form (pattern_view p)
      tuple_binds n shape is =
          let counted : n ≡ pattern_count (pattern_trees (pattern_views ps.items)) = is ∙ sym (count_of_patterns ps.items) in
          by_tree _ _ (ap pattern_view shape ∙ view-Tuple ps place) (λ i. binds_parts spec class form (counted i) 0 (pattern_trees (pattern_views (same i))))

      pub record_binds : (t : TypeName) (forms : List FormTree) → p ≡ rust.Record t ps place → forms ≡ record_parts spec class form t
          → binds_fields spec class forms (pattern_trees (pattern_views items)) ≡ binds spec class form (pattern_view p)
      record_binds t forms shape is =
          by_tree _ _ (ap pattern_view shape ∙ view-Record t ps place) (λ i. binds_fields spec class (is i) (pattern_trees (pattern_views (same i))))

    pub map_binds : (ms : Vec MapletPattern Global) (items : List MapletPattern) (same : items ≡ ms.items) → p ≡ rust.Map ms place
        → binds_maplets spec class (parts_of spec any_map key form) (parts_of spec any_map value form) (maplet_pattern_trees (map maplet_pattern_view items))
        ≡ binds spec class form (pattern_view p)
    map_binds ms items same shape =
        by_tree _ _ (ap pattern_view shape ∙ view-Map ms place)
        (λ i. binds_maplets spec class (parts_of spec any_map key form) (parts_of spec any_map value form) (maplet_pattern_trees (map maplet_pattern_view (same i))))
