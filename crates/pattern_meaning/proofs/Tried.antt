-- What is tried fits, and all that fits is tried.
use Rattle.std.proofs.Common.{◌≡◌, ℕ, zero, suc, ◌+◌, ⊎_elim, true, List, [], ◌∷◌, ◌++◌, length, drop, refl, ap, sym, ◌∙◌, subst, arith, Contains, Option, Some, length-append, true≢false}
use Rattle.std.proofs.lemmas.Bool.Decides.{nat_tests}
use Rattle.vdm_kinds.specs.declared.name_at.TypeName.{TypeName}
use Rattle.abstract_syntax.specs.Expressions.{PatternTree, PatternTrees, MapletPatterns, any_value, bound, literal_pattern, equal_to, set_pattern, sequence_pattern, map_pattern, empty_map_pattern, tuple_pattern, record_pattern, concatenation_pattern, no_patterns, one_pattern, no_maplet_patterns, one_maplet_pattern}
use Rattle.abstract_syntax.specs.Values.{ValueTree, sequence, value_trees}
use Rattle.abstract_syntax.specs.ValueSets.{Entry}
use Rattle.abstract_syntax.specs.ValueCode.{value_code}
use Rattle.abstract_syntax.specs.SameBy.{same_by-decides}
use Rattle.pattern_meaning.specs.Choices.{choices, splits}
use Rattle.pattern_meaning.specs.RecordTypes.{RecordType}
use Rattle.pattern_meaning.specs.Ways.{Way, plainly, where_true, crossed, as_many, is_same, is_next, literal_value, brackets, count_of_patterns, count_of_maplets, items_in, elements_in, components_in, entries_in, fields_in, ways, ways_of_items, ways_of_set, ways_of_map, ways_of_fronts}
use Rattle.pattern_meaning.specs.Fits.{Fits, FitsItems, FitsSet, FitsMap, FitsFronts}
use Rattle.pattern_meaning.proofs.Members.{at_head, in_nothing, at_head_or, in_flat_map, from_flat_map, in_crossed, from_crossed, in_plainly, from_plainly, from_where_true, in_where_true, from_with_parts, in_with_parts, from_choices, in_choices, from_splits, in_splits}

same_to : (v w : ValueTree) → is_same v w ≡ true → v ≡ w
same_to v w e = (same_by-decides value_code v w).0 e

to_same : (v w : ValueTree) → v ≡ w → is_same v w ≡ true
to_same v w e = (same_by-decides value_code v w).1 e

next_to : (given : List ValueTree) (v : ValueTree) → is_next given v ≡ true → (rest : List ValueTree) × (given ≡ v ∷ rest)
next_to [] v e = absurd (true≢false (sym e))
next_to (g ∷ gs) v e = (gs, ap (λ x. x ∷ gs) (sym (same_to v g e)))

to_next : (given rest : List ValueTree) (v : ValueTree) → given ≡ v ∷ rest → is_next given v ≡ true
to_next given rest v e = ap (λ gs. is_next gs v) e ∙ to_same v v refl

many_to : (m n : ℕ) → as_many m n ≡ true → m ≡ n
many_to m n e = grind (arith, nat_tests)

to_many : (m n : ℕ) → m ≡ n → as_many m n ≡ true
to_many m n e = grind (arith, nat_tests)

no_length : {A : Type 0} (xs : List A) → zero ≡ length xs → xs ≡ []
no_length [] e = refl
no_length (x ∷ xs) e = absurd (omega arith)

length_around : {A : Type 0} (before behind : List A) (x : A) → length (before ++ x ∷ behind) ≡ suc (length (before ++ behind))
length_around before behind x =
    let m : length (before ++ x ∷ behind) ≡ length before + length (x ∷ behind) = length-append before (x ∷ behind) in
    let n : length (before ++ behind) ≡ length before + length behind = length-append before behind in
    omega arith

module _ (types : TypeName → Option RecordType) where
  mutual
    pub tried_fits : (p : PatternTree) (given : List ValueTree) (v : ValueTree) (w : Way) → Contains (ways types p given v) w → Fits types p given v w
    tried_fits (any_value place) given v w h = from_plainly w h
    tried_fits (bound name place) given v w h = ⊎_elim (λ e. e) (λ k. absurd (in_nothing w k)) (at_head_or ((name, v) ∷ []) w [] h)
    tried_fits (literal_pattern literal place) given v w h =
        let t = from_where_true (is_same v (literal_value literal)) plainly w h in (same_to v (literal_value literal) t.0, from_plainly w t.1)
    tried_fits (equal_to inner place) given v w h =
        let t = from_where_true (is_next given v) plainly w h in (next_to given v t.0, from_plainly w t.1)
    tried_fits (set_pattern ps place) given v w h =
        let q = from_with_parts (elements_in v) (λ vs. where_true (as_many (count_of_patterns ps) (length vs)) (ways_of_set types ps given vs)) w h in
        let t = from_where_true (as_many (count_of_patterns ps) (length q.those)) (ways_of_set types ps given q.those) w q.fits in
        record { those = q.those; are = q.are; fits = tried_set ps given q.those w (many_to (count_of_patterns ps) (length q.those) t.0) t.1 }
    tried_fits (sequence_pattern ps place) given v w h =
        let q = from_with_parts (items_in v) (λ vs. where_true (as_many (count_of_patterns ps) (length vs)) (ways_of_items types ps given vs)) w h in
        let t = from_where_true (as_many (count_of_patterns ps) (length q.those)) (ways_of_items types ps given q.those) w q.fits in
        record { those = q.those; are = q.are; fits = tried_items ps given q.those w (many_to (count_of_patterns ps) (length q.those) t.0) t.1 }
    tried_fits (map_pattern ms place) given v w h =
        let q = from_with_parts (entries_in v) (λ vs. where_true (as_many (count_of_maplets ms) (length vs)) (ways_of_map types ms given vs)) w h in
        let t = from_where_true (as_many (count_of_maplets ms) (length q.those)) (ways_of_map types ms given q.those) w q.fits in
        record { those = q.those; are = q.are; fits = tried_map ms given q.those w (many_to (count_of_maplets ms) (length q.those) t.0) t.1 }
    tried_fits (empty_map_pattern place) given v w h =
        let q = from_with_parts (entries_in v) (λ es. where_true (as_many 0 (length es)) plainly) w h in
        let t = from_where_true (as_many 0 (length q.those)) plainly w q.fits in
        (q.are ∙ ap Some (no_length q.those (many_to 0 (length q.those) t.0)), from_plainly w t.1)
    tried_fits (tuple_pattern ps place) given v w h =
        let q = from_with_parts (components_in v) (λ vs. where_true (as_many (count_of_patterns ps) (length vs)) (ways_of_items types ps given vs)) w h in
        let t = from_where_true (as_many (count_of_patterns ps) (length q.those)) (ways_of_items types ps given q.those) w q.fits in
        record { those = q.those; are = q.are; fits = tried_items ps given q.those w (many_to (count_of_patterns ps) (length q.those) t.0) t.1 }
    tried_fits (record_pattern t0 ps place) given v w h =
        let q = from_with_parts (fields_in (types t0) v) (λ vs. where_true (as_many (count_of_patterns ps) (length vs)) (ways_of_items types ps given vs)) w h in
        let t = from_where_true (as_many (count_of_patterns ps) (length q.those)) (ways_of_items types ps given q.those) w q.fits in
        record { those = q.those; are = q.are; fits = tried_items ps given q.those w (many_to (count_of_patterns ps) (length q.those) t.0) t.1 }
    tried_fits (concatenation_pattern ps place) given v w h =
        let q = from_with_parts (items_in v) (ways_of_fronts types ps given) w h in
        record { those = q.those; are = q.are; fits = tried_fronts ps given q.those w q.fits }

    tried_items : (ps : PatternTrees) (given vs : List ValueTree) (w : Way) → count_of_patterns ps ≡ length vs →
        Contains (ways_of_items types ps given vs) w → FitsItems types ps given vs w
    tried_items no_patterns given vs w n h = (no_length vs n, from_plainly w h)
    tried_items (one_pattern p ps) given [] w n h = absurd (omega arith)
    tried_items (one_pattern p ps) given (v ∷ vs) w n h =
        let b = from_crossed (ways types p given v) (ways_of_items types ps (drop (brackets p) given) vs) w h in
        record {
          front = b.front;
          behind = b.behind;
          whole = b.whole;
          first = tried_fits p given v b.front b.first;
          others = tried_items ps (drop (brackets p) given) vs b.behind (omega arith) b.others;
        }

    tried_set : (ps : PatternTrees) (given vs : List ValueTree) (w : Way) → count_of_patterns ps ≡ length vs →
        Contains (ways_of_set types ps given vs) w → FitsSet types ps given vs w
    tried_set no_patterns given vs w n h = (no_length vs n, from_plainly w h)
    tried_set (one_pattern p ps) given vs w n h =
        let a = from_flat_map (λ c. crossed (ways types p given c.0) (ways_of_set types ps (drop (brackets p) given) c.1)) (choices vs) w h in
        let s = from_choices vs a.item a.there in
        let b = from_crossed (ways types p given a.item.0) (ways_of_set types ps (drop (brackets p) given) a.item.1) w a.is in
        let count : count_of_patterns ps ≡ length a.item.1 =
        (let l : length vs ≡ suc (length (s.before ++ s.behind)) = ap length s.whole ∙ length_around s.before s.behind a.item.0 in
        let m : length a.item.1 ≡ length (s.before ++ s.behind) = ap length s.others in omega arith) in
        record {
          before = s.before;
          item = a.item.0;
          behind = s.behind;
          whole = s.whole;
          fits = record {
            front = b.front;
            behind = b.behind;
            whole = b.whole;
            first = tried_fits p given a.item.0 b.front b.first;
            others = subst (λ xs. FitsSet types ps (drop (brackets p) given) xs b.behind) s.others
                (tried_set ps (drop (brackets p) given) a.item.1 b.behind count b.others);
          };
        }

    tried_map : (ms : MapletPatterns) (given : List ValueTree) (es : List Entry) (w : Way) → count_of_maplets ms ≡ length es →
        Contains (ways_of_map types ms given es) w → FitsMap types ms given es w
    tried_map no_maplet_patterns given es w n h = (no_length es n, from_plainly w h)
    tried_map (one_maplet_pattern p q ms) given es w n h =
        let a = from_flat_map
        (λ c. crossed (ways types p given c.0.0) (crossed (ways types q (drop (brackets p) given) c.0.1)
        (ways_of_map types ms (drop (brackets q) (drop (brackets p) given)) c.1))) (choices es) w h in
        let s = from_choices es a.item a.there in
        let b = from_crossed (ways types p given a.item.0.0) (crossed (ways types q (drop (brackets p) given) a.item.0.1)
        (ways_of_map types ms (drop (brackets q) (drop (brackets p) given)) a.item.1)) w a.is in
        let d = from_crossed (ways types q (drop (brackets p) given) a.item.0.1)
        (ways_of_map types ms (drop (brackets q) (drop (brackets p) given)) a.item.1) b.behind b.others in
        let count : count_of_maplets ms ≡ length a.item.1 =
        (let l : length es ≡ suc (length (s.before ++ s.behind)) = ap length s.whole ∙ length_around s.before s.behind a.item.0 in
        let m : length a.item.1 ≡ length (s.before ++ s.behind) = ap length s.others in omega arith) in
        record {
          before = s.before;
          item = a.item.0;
          behind = s.behind;
          whole = s.whole;
          fits = record {
            front = b.front;
            behind = b.behind;
            whole = b.whole;
            first = tried_fits p given a.item.0.0 b.front b.first;
            others = record {
              front = d.front;
              behind = d.behind;
              whole = d.whole;
              first = tried_fits q (drop (brackets p) given) a.item.0.1 d.front d.first;
              others = subst (λ xs. FitsMap types ms (drop (brackets q) (drop (brackets p) given)) xs d.behind) s.others
                  (tried_map ms (drop (brackets q) (drop (brackets p) given)) a.item.1 d.behind count d.others);
            };
          };
        }

    tried_fronts : (ps : PatternTrees) (given vs : List ValueTree) (w : Way) → Contains (ways_of_fronts types ps given vs) w →
        FitsFronts types ps given vs w
    tried_fronts no_patterns given [] w h = (refl, from_plainly w h)
    tried_fronts no_patterns given (v ∷ vs) w h = absurd (in_nothing w h)
    tried_fronts (one_pattern p ps) given vs w h =
        let a = from_flat_map (λ s. crossed (ways types p given (sequence (value_trees s.0))) (ways_of_fronts types ps (drop (brackets p) given) s.1))
        (splits vs) w h in
        let b = from_crossed (ways types p given (sequence (value_trees a.item.0))) (ways_of_fronts types ps (drop (brackets p) given) a.item.1) w a.is in
        record {
          front = a.item.0;
          rest = a.item.1;
          whole = from_splits vs a.item a.there;
          fits = record {
            front = b.front;
            behind = b.behind;
            whole = b.whole;
            first = tried_fits p given (sequence (value_trees a.item.0)) b.front b.first;
            others = tried_fronts ps (drop (brackets p) given) a.item.1 b.behind b.others;
          };
        }

  -- patterns that fit are as many as the parts
  items_count : (ps : PatternTrees) (given vs : List ValueTree) (w : Way) → FitsItems types ps given vs w → count_of_patterns ps ≡ length vs
  items_count no_patterns given vs w h = sym (ap length h.0)
  items_count (one_pattern p ps) given [] w h = absurd h
  items_count (one_pattern p ps) given (v ∷ vs) w h = ap suc (items_count ps (drop (brackets p) given) vs h.behind h.others)

  set_count : (ps : PatternTrees) (given vs : List ValueTree) (w : Way) → FitsSet types ps given vs w → count_of_patterns ps ≡ length vs
  set_count no_patterns given vs w h = sym (ap length h.0)
  set_count (one_pattern p ps) given vs w h =
      ap suc (set_count ps (drop (brackets p) given) (h.before ++ h.behind) h.fits.behind h.fits.others) ∙
      sym (ap length h.whole ∙ length_around h.before h.behind h.item)

  map_count : (ms : MapletPatterns) (given : List ValueTree) (es : List Entry) (w : Way) → FitsMap types ms given es w → count_of_maplets ms ≡ length es
  map_count no_maplet_patterns given es w h = sym (ap length h.0)
  map_count (one_maplet_pattern p q ms) given es w h =
      ap suc (map_count ms (drop (brackets q) (drop (brackets p) given)) (h.before ++ h.behind) h.fits.others.behind h.fits.others.others) ∙
      sym (ap length h.whole ∙ length_around h.before h.behind h.item)

  mutual
    pub fits_tried : (p : PatternTree) (given : List ValueTree) (v : ValueTree) (w : Way) → Fits types p given v w → Contains (ways types p given v) w
    fits_tried (any_value place) given v w h = in_plainly w h
    fits_tried (bound name place) given v w h = subst (Contains (((name, v) ∷ []) ∷ [])) (sym h) (at_head ((name, v) ∷ []) [])
    fits_tried (literal_pattern literal place) given v w h =
        in_where_true (is_same v (literal_value literal)) plainly w (to_same v (literal_value literal) h.0) (in_plainly w h.1)
    fits_tried (equal_to inner place) given v w h =
        in_where_true (is_next given v) plainly w (to_next given h.0.0 v h.0.1) (in_plainly w h.1)
    fits_tried (set_pattern ps place) given v w h =
        in_with_parts (elements_in v) (λ vs. where_true (as_many (count_of_patterns ps) (length vs)) (ways_of_set types ps given vs)) h.those w h.are
        (in_where_true (as_many (count_of_patterns ps) (length h.those)) (ways_of_set types ps given h.those) w
        (to_many (count_of_patterns ps) (length h.those) (set_count ps given h.those w h.fits)) (fits_set ps given h.those w h.fits))
    fits_tried (sequence_pattern ps place) given v w h =
        in_with_parts (items_in v) (λ vs. where_true (as_many (count_of_patterns ps) (length vs)) (ways_of_items types ps given vs)) h.those w h.are
        (in_where_true (as_many (count_of_patterns ps) (length h.those)) (ways_of_items types ps given h.those) w
        (to_many (count_of_patterns ps) (length h.those) (items_count ps given h.those w h.fits)) (fits_items ps given h.those w h.fits))
    fits_tried (map_pattern ms place) given v w h =
        in_with_parts (entries_in v) (λ vs. where_true (as_many (count_of_maplets ms) (length vs)) (ways_of_map types ms given vs)) h.those w h.are
        (in_where_true (as_many (count_of_maplets ms) (length h.those)) (ways_of_map types ms given h.those) w
        (to_many (count_of_maplets ms) (length h.those) (map_count ms given h.those w h.fits)) (fits_map ms given h.those w h.fits))
    fits_tried (empty_map_pattern place) given v w h =
        in_with_parts (entries_in v) (λ es. where_true (as_many 0 (length es)) plainly) [] w h.0 (in_plainly w h.1)
    fits_tried (tuple_pattern ps place) given v w h =
        in_with_parts (components_in v) (λ vs. where_true (as_many (count_of_patterns ps) (length vs)) (ways_of_items types ps given vs)) h.those w h.are
        (in_where_true (as_many (count_of_patterns ps) (length h.those)) (ways_of_items types ps given h.those) w
        (to_many (count_of_patterns ps) (length h.those) (items_count ps given h.those w h.fits)) (fits_items ps given h.those w h.fits))
    fits_tried (record_pattern t0 ps place) given v w h =
        in_with_parts (fields_in (types t0) v) (λ vs. where_true (as_many (count_of_patterns ps) (length vs)) (ways_of_items types ps given vs)) h.those w h.are
        (in_where_true (as_many (count_of_patterns ps) (length h.those)) (ways_of_items types ps given h.those) w
        (to_many (count_of_patterns ps) (length h.those) (items_count ps given h.those w h.fits)) (fits_items ps given h.those w h.fits))
    fits_tried (concatenation_pattern ps place) given v w h =
        in_with_parts (items_in v) (ways_of_fronts types ps given) h.those w h.are (fits_fronts ps given h.those w h.fits)

    fits_items : (ps : PatternTrees) (given vs : List ValueTree) (w : Way) → FitsItems types ps given vs w →
        Contains (ways_of_items types ps given vs) w
    fits_items no_patterns given vs w h = in_plainly w h.1
    fits_items (one_pattern p ps) given [] w h = absurd h
    fits_items (one_pattern p ps) given (v ∷ vs) w h =
        in_crossed (ways types p given v) (ways_of_items types ps (drop (brackets p) given) vs) w (record {
          front = h.front;
          behind = h.behind;
          whole = h.whole;
          first = fits_tried p given v h.front h.first;
          others = fits_items ps (drop (brackets p) given) vs h.behind h.others;
        })

    fits_set : (ps : PatternTrees) (given vs : List ValueTree) (w : Way) → FitsSet types ps given vs w → Contains (ways_of_set types ps given vs) w
    fits_set no_patterns given vs w h = in_plainly w h.1
    fits_set (one_pattern p ps) given vs w h =
        in_flat_map (λ c. crossed (ways types p given c.0) (ways_of_set types ps (drop (brackets p) given) c.1)) (choices vs)
        (h.item, h.before ++ h.behind) w
        (subst (λ xs. Contains (choices xs) (h.item, h.before ++ h.behind)) (sym h.whole) (in_choices h.before h.item h.behind))
        (in_crossed (ways types p given h.item) (ways_of_set types ps (drop (brackets p) given) (h.before ++ h.behind)) w (record {
          front = h.fits.front;
          behind = h.fits.behind;
          whole = h.fits.whole;
          first = fits_tried p given h.item h.fits.front h.fits.first;
          others = fits_set ps (drop (brackets p) given) (h.before ++ h.behind) h.fits.behind h.fits.others;
        }))

    fits_map : (ms : MapletPatterns) (given : List ValueTree) (es : List Entry) (w : Way) → FitsMap types ms given es w →
        Contains (ways_of_map types ms given es) w
    fits_map no_maplet_patterns given es w h = in_plainly w h.1
    fits_map (one_maplet_pattern p q ms) given es w h =
        in_flat_map
        (λ c. crossed (ways types p given c.0.0) (crossed (ways types q (drop (brackets p) given) c.0.1)
        (ways_of_map types ms (drop (brackets q) (drop (brackets p) given)) c.1))) (choices es) (h.item, h.before ++ h.behind) w
        (subst (λ xs. Contains (choices xs) (h.item, h.before ++ h.behind)) (sym h.whole) (in_choices h.before h.item h.behind))
        (in_crossed (ways types p given h.item.0) (crossed (ways types q (drop (brackets p) given) h.item.1)
        (ways_of_map types ms (drop (brackets q) (drop (brackets p) given)) (h.before ++ h.behind))) w (record {
          front = h.fits.front;
          behind = h.fits.behind;
          whole = h.fits.whole;
          first = fits_tried p given h.item.0 h.fits.front h.fits.first;
          others = in_crossed (ways types q (drop (brackets p) given) h.item.1)
              (ways_of_map types ms (drop (brackets q) (drop (brackets p) given)) (h.before ++ h.behind)) h.fits.behind (record {
                front = h.fits.others.front;
                behind = h.fits.others.behind;
                whole = h.fits.others.whole;
                first = fits_tried q (drop (brackets p) given) h.item.1 h.fits.others.front h.fits.others.first;
                others = fits_map ms (drop (brackets q) (drop (brackets p) given)) (h.before ++ h.behind) h.fits.others.behind h.fits.others.others;
              });
        }))

    fits_fronts : (ps : PatternTrees) (given vs : List ValueTree) (w : Way) → FitsFronts types ps given vs w →
        Contains (ways_of_fronts types ps given vs) w
    fits_fronts no_patterns given [] w h = in_plainly w h.1
    fits_fronts no_patterns given (v ∷ vs) w h = let l : length (v ∷ vs) ≡ zero = ap length h.0 in absurd (omega arith)
    fits_fronts (one_pattern p ps) given vs w h =
        in_flat_map (λ s. crossed (ways types p given (sequence (value_trees s.0))) (ways_of_fronts types ps (drop (brackets p) given) s.1))
        (splits vs) (h.front, h.rest) w
        (subst (λ xs. Contains (splits xs) (h.front, h.rest)) (sym h.whole) (in_splits h.front h.rest))
        (in_crossed (ways types p given (sequence (value_trees h.front))) (ways_of_fronts types ps (drop (brackets p) given) h.rest) w (record {
          front = h.fits.front;
          behind = h.fits.behind;
          whole = h.fits.whole;
          first = fits_tried p given (sequence (value_trees h.front)) h.fits.front h.fits.first;
          others = fits_fronts ps (drop (brackets p) given) h.rest h.fits.behind h.fits.others;
        }))
