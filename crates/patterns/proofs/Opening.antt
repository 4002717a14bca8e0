-- What a pattern asks of its value has the ways of the pattern.
use Rattle.std.proofs.Common.{◌≡◌, ℕ, suc, Bool, true, false, List, [], ◌∷◌, map, length, drop, refl, ap, sym, ◌∙◌, arith, Option, Some}
use Rattle.std.proofs.lemmas.Bool.Decides.{nat_tests}
use Rattle.abstract_syntax.specs.Expressions.{ExprTree, PatternTree, PatternTrees, MapletPatterns, any_value, bound, literal_pattern, equal_to, set_pattern, sequence_pattern, map_pattern, empty_map_pattern, tuple_pattern, record_pattern, concatenation_pattern, no_patterns, one_pattern, no_maplet_patterns, one_maplet_pattern}
use Rattle.abstract_syntax.specs.Values.{ValueTree}
use Rattle.abstract_syntax.specs.ValueCode.{value_code}
use Rattle.abstract_syntax.specs.ValueSets.{Entry}
use Rattle.abstract_syntax.specs.SameBy.{same_by-decides}
use Rattle.vdm_kinds.specs.declared.name_at.TypeName.{TypeName}
use Rattle.expr_tree.specs.declared.pattern.Pattern.{Pattern}
use Rattle.expr_tree.specs.declared.pattern.MapletPattern.{MapletPattern}
use Rattle.expr_tree.specs.View.{pattern_views, pattern_trees, maplet_pattern_view, maplet_pattern_trees}
use Rattle.pattern_meaning.specs.RecordTypes.{RecordType}
use Rattle.pattern_meaning.specs.Ways.{Way, plainly, where_true, with_parts, crossed, as_many, is_same, count_of_patterns, count_of_maplets, literal_value, is_next, brackets, brackets_among, brackets_in, items_in, elements_in, components_in, entries_in, fields_in, ways, ways_of_items, ways_of_set, ways_of_map, ways_of_fronts}
use Rattle.patterns.specs.Todos.{TodoTree, to_match, to_split, subject_tree, Opens, Leads, todo_ways, todo_brackets, all_ways, choosing, choosing_pair, splitting}
use Rattle.abstract_syntax.specs.Literals.{LiteralTree}
use Rattle.vdm_kinds.specs.declared.name.Name.{Name}
use Rattle.vdm_kinds.specs.declared.place.Place.{Place}
use Rattle.patterns.specs.declared.subject.Subject.{Subject}
use Rattle.patterns.specs.declared.todo.Next.{Next}
use Rattle.patterns.specs.declared.todo.Next.TheVariants.{Holds, Compares, Binds}
use Rattle.patterns.proofs.Crossed.{crossed-plainly, crossed-one}

pub count_of_trees : (ps : List PatternTree) → count_of_patterns (pattern_trees ps) ≡ length ps
count_of_trees [] = refl
count_of_trees (p ∷ ps) = ap suc (count_of_trees ps)

pub count_of_views : (ps : List Pattern) → count_of_patterns (pattern_trees (pattern_views ps)) ≡ length ps
count_of_views [] = refl
count_of_views (p ∷ ps) = ap suc (count_of_views ps)

pub count_of_maplet_views : (ms : List MapletPattern) → count_of_maplets (maplet_pattern_trees (map maplet_pattern_view ms)) ≡ length ms
count_of_maplet_views [] = refl
count_of_maplet_views (m ∷ ms) = ap suc (count_of_maplet_views ms)

pub are_as_many : (m n : ℕ) → m ≡ n → as_many m n ≡ true
are_as_many m n e = grind (arith, nat_tests)

pub are_not_as_many : (m n : ℕ) → (m ≡ n → ⊥) → as_many m n ≡ false
are_not_as_many m n e = grind (arith, nat_tests)

not_true : (b : Bool) → (b ≡ true → ⊥) → b ≡ false
not_true true f = absurd (f refl)
not_true false f = refl

pub is_same-yes : (v w : ValueTree) → v ≡ w → is_same v w ≡ true
is_same-yes v w e = (same_by-decides value_code v w).1 e

pub is_same-no : (v w : ValueTree) → (v ≡ w → ⊥) → is_same v w ≡ false
is_same-no v w e = not_true (is_same v w) (λ t. e ((same_by-decides value_code v w).0 t))

by_test : (b : Bool) (ws : List Way) → crossed (where_true b plainly) ws ≡ where_true b ws
by_test true ws = crossed-plainly ws
by_test false ws = refl

module _ (types : TypeName → Option RecordType) where
  -- a test that holds leaves what it stands before
  pub leads_on : (b : Bool) (t : TodoTree) (given : List ValueTree) (ts : List TodoTree) → b ≡ true →
      crossed (where_true b (todo_ways types t given)) (all_ways types (drop (todo_brackets t) given) ts) ≡ all_ways types given (t ∷ ts)
  unfolding all_ways
  leads_on b t given ts e = ap (λ c. crossed (where_true c (todo_ways types t given)) (all_ways types (drop (todo_brackets t) given) ts)) e

  -- and one that does not hold leaves nothing
  pub leads_nowhere : (b : Bool) (ws more : List Way) → b ≡ false → crossed (where_true b ws) more ≡ []
  leads_nowhere b ws more e = ap (λ c. crossed (where_true c ws) more) e

  pub leads_past : (b : Bool) (more : List Way) → b ≡ true → crossed (where_true b plainly) more ≡ more
  leads_past b more e = ap (λ c. crossed (where_true c plainly) more) e ∙ crossed-plainly more

  -- parts that are as many as patterns
  pub leads_parts : {A : Type 0} (o : Option (List A)) (vs : List A) (count : ℕ) (f : List A → List Way) (t : TodoTree)
      (given : List ValueTree) (ts : List TodoTree) → o ≡ Some vs → count ≡ length vs → f vs ≡ todo_ways types t given →
      crossed (with_parts o (λ ws. where_true (as_many count (length ws)) (f ws))) (all_ways types (drop (todo_brackets t) given) ts) ≡
      all_ways types given (t ∷ ts)
  unfolding all_ways
  leads_parts o vs count f t given ts e n same =
      ap (λ p. crossed (with_parts p (λ ws. where_true (as_many count (length ws)) (f ws))) (all_ways types (drop (todo_brackets t) given) ts)) e ∙
      (λ i. crossed (where_true (are_as_many count (length vs) n i) (same i)) (all_ways types (drop (todo_brackets t) given) ts))

  -- and that are not
  pub leads_apart : {A : Type 0} (o : Option (List A)) (vs : List A) (count : ℕ) (f : List A → List Way) (more : List Way) →
      o ≡ Some vs → (count ≡ length vs → ⊥) →
      crossed (with_parts o (λ ws. where_true (as_many count (length ws)) (f ws))) more ≡ []
  leads_apart o vs count f more e n =
      ap (λ p. crossed (with_parts p (λ ws. where_true (as_many count (length ws)) (f ws))) more) e ∙
      leads_nowhere (as_many count (length vs)) (f vs) more (are_not_as_many count (length vs) n)

  pub from_the_first : (ps : PatternTrees) (vs given : List ValueTree) → ways_of_fronts types ps given vs ≡ splitting types ps given vs 0
  from_the_first no_patterns vs given = refl
  from_the_first (one_pattern p ps) vs given = refl

  pub leads_fronts : (o : Option (List ValueTree)) (vs : List ValueTree) (ps : PatternTrees)
      (given : List ValueTree) (ts : List TodoTree) → o ≡ Some vs →
      crossed (with_parts o (ways_of_fronts types ps given)) (all_ways types (drop (brackets_among ps) given) ts) ≡
      all_ways types given (to_split ps vs 0 ∷ ts)
  unfolding all_ways
  leads_fronts o vs ps given ts e =
      ap (λ p. crossed (with_parts p (ways_of_fronts types ps given)) (all_ways types (drop (brackets_among ps) given) ts)) e ∙
      ap (λ ws. crossed ws (all_ways types (drop (brackets_among ps) given) ts)) (from_the_first ps vs given)

  pub choose_from_the_first : (ps : PatternTrees) (vs ws given : List ValueTree) → ws ≡ vs →
      ways_of_set types ps given vs ≡ choosing types ps given ws 0
  choose_from_the_first no_patterns vs ws given e = refl
  choose_from_the_first (one_pattern p ps) vs ws given e = λ i. choosing types (one_pattern p ps) given (sym e i) 0

  pub choose_pair_from_the_first : (ms : MapletPatterns) (es : List Entry) (fs : List Entry) (given : List ValueTree) → fs ≡ es →
      ways_of_map types ms given es ≡ choosing_pair types ms given fs 0
  choose_pair_from_the_first no_maplet_patterns es fs given e = refl
  choose_pair_from_the_first (one_maplet_pattern p q ms) es fs given e = λ i. choosing_pair types (one_maplet_pattern p q ms) given (sym e i) 0

  pub leads_empty : {A : Type 0} (o : Option (List A)) (vs : List A) (more : List Way) → o ≡ Some vs → length vs ≡ 0 →
      crossed (with_parts o (λ ws. where_true (as_many 0 (length ws)) plainly)) more ≡ more
  leads_empty o vs more e n =
      ap (λ p. crossed (with_parts p (λ ws. where_true (as_many 0 (length ws)) plainly)) more) e ∙
      leads_past (as_many 0 (length vs)) more (are_as_many 0 (length vs) (sym n))

  opens_match : (p q : PatternTree) (v : ValueTree) (next : Next) → p ≡ q → Leads types (λ given. ways types q given v) (brackets q) next →
      Opens types p v next
  unfolding all_ways
  opens_match p q v next e h given ts = ap (λ r. all_ways types given (to_match r v ∷ ts)) e ∙ h given ts

  pub opens_any : (p : PatternTree) (place : Place) (v : ValueTree) → p ≡ any_value place → Opens types p v Holds
  opens_any p place v e = opens_match p (any_value place) v Holds e (λ given ts. crossed-plainly (all_ways types given ts))

  pub opens_name : (p : PatternTree) (name : Name) (place : Place) (s : Subject) → p ≡ bound name place →
      Opens types p (subject_tree s) (Binds name s)
  opens_name p name place s e =
      opens_match p (bound name place) (subject_tree s) (Binds name s) e (λ given ts. crossed-one (name, subject_tree s) (all_ways types given ts))

  pub opens_literal : (p : PatternTree) (l : LiteralTree) (place : Place) (v : ValueTree) (next : Next) → p ≡ literal_pattern l place →
      Leads types (λ given. where_true (is_same v (literal_value l)) plainly) 0 next → Opens types p v next
  opens_literal p l place v next e h = opens_match p (literal_pattern l place) v next e h

  pub opens_equal : (p : PatternTree) (inner : ExprTree) (place : Place) (s : Subject) → p ≡ equal_to inner place →
      Opens types p (subject_tree s) (Compares s)
  opens_equal p inner place s e =
      opens_match p (equal_to inner place) (subject_tree s) (Compares s) e
      (λ given ts. by_test (is_next given (subject_tree s)) (all_ways types (drop 1 given) ts))

  pub opens_set : (p : PatternTree) (qs ps : List Pattern) (place : Place) (v : ValueTree) (o : Option (List ValueTree)) (next : Next) →
      p ≡ set_pattern (pattern_trees (pattern_views ps)) place → qs ≡ ps → o ≡ elements_in v →
      Leads types (λ given. with_parts o (λ vs. where_true (as_many (count_of_patterns (pattern_trees (pattern_views qs))) (length vs))
      (ways_of_set types (pattern_trees (pattern_views qs)) given vs))) (brackets_among (pattern_trees (pattern_views qs))) next →
      Opens types p v next
  opens_set p qs ps place v o next e same d h =
      opens_match p (set_pattern (pattern_trees (pattern_views qs)) place) v next
      (e ∙ ap (λ rs. set_pattern (pattern_trees (pattern_views rs)) place) (sym same))
      (λ given ts. ap (λ w. crossed (with_parts w (λ vs. where_true (as_many (count_of_patterns (pattern_trees (pattern_views qs))) (length vs))
      (ways_of_set types (pattern_trees (pattern_views qs)) given vs))) (all_ways types (drop (brackets_among (pattern_trees (pattern_views qs))) given) ts)) (sym d) ∙ h given ts)

  pub opens_sequence : (p : PatternTree) (qs ps : List Pattern) (place : Place) (v : ValueTree) (o : Option (List ValueTree)) (next : Next) →
      p ≡ sequence_pattern (pattern_trees (pattern_views ps)) place → qs ≡ ps → o ≡ items_in v →
      Leads types (λ given. with_parts o (λ vs. where_true (as_many (count_of_patterns (pattern_trees (pattern_views qs))) (length vs))
      (ways_of_items types (pattern_trees (pattern_views qs)) given vs))) (brackets_among (pattern_trees (pattern_views qs))) next →
      Opens types p v next
  opens_sequence p qs ps place v o next e same d h =
      opens_match p (sequence_pattern (pattern_trees (pattern_views qs)) place) v next
      (e ∙ ap (λ rs. sequence_pattern (pattern_trees (pattern_views rs)) place) (sym same))
      (λ given ts. ap (λ w. crossed (with_parts w (λ vs. where_true (as_many (count_of_patterns (pattern_trees (pattern_views qs))) (length vs))
      (ways_of_items types (pattern_trees (pattern_views qs)) given vs))) (all_ways types (drop (brackets_among (pattern_trees (pattern_views qs))) given) ts)) (sym d) ∙ h given ts)

  pub opens_tuple : (p : PatternTree) (qs ps : List Pattern) (place : Place) (v : ValueTree) (o : Option (List ValueTree)) (next : Next) →
      p ≡ tuple_pattern (pattern_trees (pattern_views ps)) place → qs ≡ ps → o ≡ components_in v →
      Leads types (λ given. with_parts o (λ vs. where_true (as_many (count_of_patterns (pattern_trees (pattern_views qs))) (length vs))
      (ways_of_items types (pattern_trees (pattern_views qs)) given vs))) (brackets_among (pattern_trees (pattern_views qs))) next →
      Opens types p v next
  opens_tuple p qs ps place v o next e same d h =
      opens_match p (tuple_pattern (pattern_trees (pattern_views qs)) place) v next
      (e ∙ ap (λ rs. tuple_pattern (pattern_trees (pattern_views rs)) place) (sym same))
      (λ given ts. ap (λ w. crossed (with_parts w (λ vs. where_true (as_many (count_of_patterns (pattern_trees (pattern_views qs))) (length vs))
      (ways_of_items types (pattern_trees (pattern_views qs)) given vs))) (all_ways types (drop (brackets_among (pattern_trees (pattern_views qs))) given) ts)) (sym d) ∙ h given ts)

  pub opens_record : (p : PatternTree) (t : TypeName) (qs ps : List Pattern) (place : Place) (v : ValueTree) (r : Option RecordType)
      (o : Option (List ValueTree)) (next : Next) →
      p ≡ record_pattern t (pattern_trees (pattern_views ps)) place → qs ≡ ps → r ≡ types t → o ≡ fields_in r v →
      Leads types (λ given. with_parts o (λ vs. where_true (as_many (count_of_patterns (pattern_trees (pattern_views qs))) (length vs))
      (ways_of_items types (pattern_trees (pattern_views qs)) given vs))) (brackets_among (pattern_trees (pattern_views qs))) next →
      Opens types p v next
  opens_record p t qs ps place v r o next e same f d h =
      opens_match p (record_pattern t (pattern_trees (pattern_views qs)) place) v next
      (e ∙ ap (λ rs. record_pattern t (pattern_trees (pattern_views rs)) place) (sym same))
      (λ given ts. ap (λ w. crossed (with_parts w (λ vs. where_true (as_many (count_of_patterns (pattern_trees (pattern_views qs))) (length vs))
      (ways_of_items types (pattern_trees (pattern_views qs)) given vs))) (all_ways types (drop (brackets_among (pattern_trees (pattern_views qs))) given) ts))
      (sym (d ∙ ap (λ u. fields_in u v) f)) ∙ h given ts)

  pub opens_fronts : (p : PatternTree) (qs ps : List Pattern) (place : Place) (v : ValueTree) (o : Option (List ValueTree)) (next : Next) →
      p ≡ concatenation_pattern (pattern_trees (pattern_views ps)) place → qs ≡ ps → o ≡ items_in v →
      Leads types (λ given. with_parts o (ways_of_fronts types (pattern_trees (pattern_views qs)) given))
      (brackets_among (pattern_trees (pattern_views qs))) next →
      Opens types p v next
  opens_fronts p qs ps place v o next e same d h =
      opens_match p (concatenation_pattern (pattern_trees (pattern_views qs)) place) v next
      (e ∙ ap (λ rs. concatenation_pattern (pattern_trees (pattern_views rs)) place) (sym same))
      (λ given ts. ap (λ w. crossed (with_parts w (ways_of_fronts types (pattern_trees (pattern_views qs)) given))
      (all_ways types (drop (brackets_among (pattern_trees (pattern_views qs))) given) ts)) (sym d) ∙ h given ts)

  pub opens_map : (p : PatternTree) (ns ms : List MapletPattern) (place : Place) (v : ValueTree) (o : Option (List Entry)) (next : Next) →
      p ≡ map_pattern (maplet_pattern_trees (map maplet_pattern_view ms)) place → ns ≡ ms → o ≡ entries_in v →
      Leads types (λ given. with_parts o (λ es. where_true (as_many (count_of_maplets (maplet_pattern_trees (map maplet_pattern_view ns))) (length es))
      (ways_of_map types (maplet_pattern_trees (map maplet_pattern_view ns)) given es))) (brackets_in (maplet_pattern_trees (map maplet_pattern_view ns))) next →
      Opens types p v next
  opens_map p ns ms place v o next e same d h =
      opens_match p (map_pattern (maplet_pattern_trees (map maplet_pattern_view ns)) place) v next
      (e ∙ ap (λ rs. map_pattern (maplet_pattern_trees (map maplet_pattern_view rs)) place) (sym same))
      (λ given ts. ap (λ w. crossed (with_parts w (λ es. where_true (as_many (count_of_maplets (maplet_pattern_trees (map maplet_pattern_view ns))) (length es))
      (ways_of_map types (maplet_pattern_trees (map maplet_pattern_view ns)) given es))) (all_ways types (drop (brackets_in (maplet_pattern_trees (map maplet_pattern_view ns))) given) ts)) (sym d) ∙ h given ts)

  pub opens_empty : (p : PatternTree) (place : Place) (v : ValueTree) (o : Option (List Entry)) (next : Next) →
      p ≡ empty_map_pattern place → o ≡ entries_in v →
      Leads types (λ given. with_parts o (λ es. where_true (as_many 0 (length es)) plainly)) 0 next → Opens types p v next
  opens_empty p place v o next e d h =
      opens_match p (empty_map_pattern place) v next e
      (λ given ts. ap (λ w. crossed (with_parts w (λ es. where_true (as_many 0 (length es)) plainly)) (all_ways types given ts)) (sym d) ∙ h given ts)
