-- Fronts that a pattern can't take have no ways.
use Rattle.std.proofs.Common.{◌≡◌, ℕ, zero, suc, ◌+◌, ◌-◌, ◌<◌, ◌≤◌, ◌⊎◌, inl, inr, ⊎_elim, Bool, true, false, List, [], ◌∷◌, ◌++◌, map, flat_map, length, take, drop, refl, ap, sym, ◌∙◌, arith, Option, Some, None, true≢false, max, subst, append-nil}
use Rattle.std.proofs.lemmas.Bool.{cases_eq, cases_order}
use Rattle.std.proofs.lemmas.List.Folds.{flat_map-map}
use Rattle.vdm_kinds.specs.declared.name_at.TypeName.{TypeName}
use Rattle.abstract_syntax.specs.Literals.{whole_literal, character_literal, text_literal, quote_literal, boolean_literal, nil_literal}
use Rattle.abstract_syntax.specs.Expressions.{PatternTree, PatternTrees, any_value, bound, literal_pattern, equal_to, set_pattern, sequence_pattern, map_pattern, empty_map_pattern, tuple_pattern, record_pattern, concatenation_pattern, no_patterns, one_pattern}
use Rattle.abstract_syntax.specs.Values.{ValueTree, character, sequence, value_trees}
use Rattle.pattern_meaning.specs.Choices.{splits}
use Rattle.pattern_meaning.specs.RecordTypes.{RecordType}
use Rattle.pattern_meaning.specs.Ways.{Way, plainly, where_true, with_parts, crossed, as_many, brackets, brackets_among, count_of_patterns, ways, ways_of_items, ways_of_fronts}
use Rattle.patterns.specs.Lengths.{fixed_length, plus_length, least_length, or_open, is_open, MayTake}
use Rattle.patterns.specs.Todos.{TodoTree, to_split, to_match, all_ways}
use Rattle.patterns.proofs.Lists.{some_value, items_in_sequence, sequence-one_to_one}
use Rattle.patterns.proofs.Opening.{are_not_as_many, is_same-no}
use Rattle.patterns.proofs.Picked.{length-map, length-take_le, length-drop_add, splits_at, splits_past}
use Rattle.patterns.proofs.Turns.{split_step}

-- less, or at least as much
below_or : (a b : ℕ) → (a < b) ⊎ (b ≤ a)
below_or a b = ⊎_elim (λ e. inr (omega arith)) (λ c. ⊎_elim (λ lt. inl lt) (λ gt. inr (omega arith)) c) (cases_order a b)

none_is_some : {A : Type 0} {x : A} → None ≡ Some x → ⊥
none_is_some e = cc

crossed-nothing : (ws : List Way) → crossed ws [] ≡ []
crossed-nothing [] = refl
crossed-nothing (w ∷ ws) = crossed-nothing ws

module _ (types : TypeName → Option RecordType) where
  -- a pattern whose length shows matches no sequence of another length
  other_length : (p : PatternTree) (n : ℕ) (given vs : List ValueTree) → fixed_length p ≡ Some n → (length vs ≡ n → ⊥) →
      ways types p given (sequence (value_trees vs)) ≡ []
  other_length (sequence_pattern ps place) n given vs e f =
      let count : count_of_patterns ps ≡ n = some_value e in
      ap (λ o. with_parts o (λ ws. where_true (as_many (count_of_patterns ps) (length ws)) (ways_of_items types ps given ws))) (items_in_sequence vs) ∙
      ap (λ b. where_true b (ways_of_items types ps given vs)) (are_not_as_many (count_of_patterns ps) (length vs) (λ d. f (sym d ∙ count)))
  other_length (literal_pattern (text_literal cs) place) n given vs e f =
      let count : length cs ≡ n = some_value e in
      ap (λ b. where_true b plainly)
      (is_same-no (sequence (value_trees vs)) (sequence (value_trees (map character cs)))
      (λ d. f (ap length (sequence-one_to_one vs (map character cs) d) ∙ length-map character cs ∙ count)))
  other_length (literal_pattern (whole_literal _) place) n given vs e f = absurd (none_is_some e)
  other_length (literal_pattern (character_literal _) place) n given vs e f = absurd (none_is_some e)
  other_length (literal_pattern (quote_literal _) place) n given vs e f = absurd (none_is_some e)
  other_length (literal_pattern (boolean_literal _) place) n given vs e f = absurd (none_is_some e)
  other_length (literal_pattern nil_literal place) n given vs e f = absurd (none_is_some e)
  other_length (any_value place) n given vs e f = absurd (none_is_some e)
  other_length (bound name place) n given vs e f = absurd (none_is_some e)
  other_length (equal_to inner place) n given vs e f = absurd (none_is_some e)
  other_length (set_pattern ps place) n given vs e f = absurd (none_is_some e)
  other_length (map_pattern ms place) n given vs e f = absurd (none_is_some e)
  other_length (empty_map_pattern place) n given vs e f = absurd (none_is_some e)
  other_length (tuple_pattern ps place) n given vs e f = absurd (none_is_some e)
  other_length (record_pattern t ps place) n given vs e f = absurd (none_is_some e)
  other_length (concatenation_pattern ps place) n given vs e f = absurd (none_is_some e)

-- what has no ways at any split has none
no_splits : (f : List ValueTree × List ValueTree → List Way) (vs : List ValueTree) →
    ((front back : List ValueTree) → length front + length back ≡ length vs → f (front, back) ≡ []) → flat_map f (splits vs) ≡ []
no_splits f [] none = ap (λ ws. ws ++ []) (none [] [] refl)
no_splits f (v ∷ vs) none =
    (λ i. none [] (v ∷ vs) (omega arith) i ++
    (flat_map-map f (λ s. (v ∷ s.0, s.1)) (splits vs) ∙
    no_splits (λ s. f (v ∷ s.0, s.1)) vs (λ front back e. none (v ∷ front) back (omega arith))) i)

module _ (types : TypeName → Option RecordType) where
  -- too few items, or too many where all lengths show
  abbrev Wrong : PatternTrees → List ValueTree → Type 0
  Wrong ps vs = (length vs < least_length ps) ⊎ ((is_open ps ≡ false) × (length vs ≡ least_length ps → ⊥))

  -- the same of a pattern and those behind it, by the length that it shows
  abbrev WrongBy : Option ℕ → PatternTrees → List ValueTree → Type 0
  WrongBy o ps vs =
      (length vs < plus_length o (least_length ps)) ⊎ ((or_open o (is_open ps) ≡ false) × (length vs ≡ plus_length o (least_length ps) → ⊥))

  abbrev Empty : PatternTrees → Type 0
  Empty ps = (given vs : List ValueTree) → Wrong ps vs → ways_of_fronts types ps given vs ≡ []

  no_rest : (p : PatternTree) (ps : PatternTrees) (given front back : List ValueTree) → ways_of_fronts types ps (drop (brackets p) given) back ≡ [] →
      crossed (ways types p given (sequence (value_trees front))) (ways_of_fronts types ps (drop (brackets p) given) back) ≡ []
  no_rest p ps given front back e =
      ap (crossed (ways types p given (sequence (value_trees front)))) e ∙ crossed-nothing (ways types p given (sequence (value_trees front)))

  no_front : (p : PatternTree) (ps : PatternTrees) (n : ℕ) (given front back : List ValueTree) → fixed_length p ≡ Some n → (length front ≡ n → ⊥) →
      crossed (ways types p given (sequence (value_trees front))) (ways_of_fronts types ps (drop (brackets p) given) back) ≡ []
  no_front p ps n given front back e f =
      ap (λ ws. crossed ws (ways_of_fronts types ps (drop (brackets p) given) back)) (other_length types p n given front e f)

  by_length : (p : PatternTree) (ps : PatternTrees) → Empty ps → (given vs front back : List ValueTree) → length front + length back ≡ length vs →
      (o : Option ℕ) → fixed_length p ≡ o → WrongBy o ps vs →
      crossed (ways types p given (sequence (value_trees front))) (ways_of_fronts types ps (drop (brackets p) given) back) ≡ []
  by_length p ps empty given vs front back e None eo (inl h) = no_rest p ps given front back (empty (drop (brackets p) given) back (inl (omega arith)))
  by_length p ps empty given vs front back e None eo (inr h) = absurd (true≢false h.0)
  by_length p ps empty given vs front back e (Some n) eo h =
      ⊎_elim
      (λ same. no_rest p ps given front back (empty (drop (brackets p) given) back (⊎_elim (λ low. inl (omega arith)) (λ w. inr (w.0, λ d. w.1 (omega arith))) h)))
      (λ other. no_front p ps n given front back eo other)
      (cases_eq (length front) n)

  pub wrong_length : (ps : PatternTrees) → Empty ps
  wrong_length no_patterns given [] (inl h) = absurd (omega arith)
  wrong_length no_patterns given [] (inr h) = absurd (h.1 refl)
  wrong_length no_patterns given (v ∷ vs) h = refl
  wrong_length (one_pattern p ps) given vs h =
      no_splits (λ s. crossed (ways types p given (sequence (value_trees s.0))) (ways_of_fronts types ps (drop (brackets p) given) s.1)) vs
      (λ front back e. by_length p ps (wrong_length ps) given vs front back e (fixed_length p) refl h)

  -- ---- one pattern and those behind it, at a front of k items

  abbrev At : PatternTree → PatternTrees → List ValueTree → List ValueTree → ℕ → List Way
  At p ps given vs k = crossed (ways types p given (sequence (value_trees (take k vs)))) (ways_of_fronts types ps (drop (brackets p) given) (drop k vs))

  by_rest : (p : PatternTree) (ps : PatternTrees) (given vs : List ValueTree) (k : ℕ) → k ≤ length vs → (MayTake p ps (length vs) k → ⊥) →
      ((n : ℕ) → fixed_length p ≡ Some n → k ≡ n) → (b : Bool) → is_open ps ≡ b → At p ps given vs k ≡ []
  by_rest p ps given vs k h not own true e =
      let behind : k + length (drop k vs) ≡ length vs = length-drop_add k vs h in
      ⊎_elim
      (λ low. no_rest p ps given (take k vs) (drop k vs) (wrong_length ps (drop (brackets p) given) (drop k vs) (inl (omega arith))))
      (λ high. absurd (not (record { own = own; rest = high; all = λ f. absurd (true≢false (sym e ∙ f)) })))
      (below_or (length vs) (k + least_length ps))
  by_rest p ps given vs k h not own false e =
      let behind : k + length (drop k vs) ≡ length vs = length-drop_add k vs h in
      ⊎_elim
      (λ same. absurd (not (record { own = own; rest = omega arith; all = λ f. same })))
      (λ other. no_rest p ps given (take k vs) (drop k vs)
      (wrong_length ps (drop (brackets p) given) (drop k vs) (inr (e, λ d. other (omega arith)))))
      (cases_eq (k + least_length ps) (length vs))

  by_own : (p : PatternTree) (ps : PatternTrees) (given vs : List ValueTree) (k : ℕ) → k ≤ length vs → (MayTake p ps (length vs) k → ⊥) →
      (o : Option ℕ) → fixed_length p ≡ o → At p ps given vs k ≡ []
  by_own p ps given vs k h not None e = by_rest p ps given vs k h not (λ n f. absurd (none_is_some (sym e ∙ f))) (is_open ps) refl
  by_own p ps given vs k h not (Some m) e =
      ⊎_elim
      (λ same. by_rest p ps given vs k h not (λ n f. same ∙ some_value (sym e ∙ f)) (is_open ps) refl)
      (λ other. no_front p ps m given (take k vs) (drop k vs) e (λ d. other (sym (length-take_le k vs h) ∙ d)))
      (cases_eq k m)

  pub unfit : (p : PatternTree) (ps : PatternTrees) (given vs : List ValueTree) (k : ℕ) → k ≤ length vs → (MayTake p ps (length vs) k → ⊥) →
      At p ps given vs k ≡ []
  unfit p ps given vs k h not = by_own p ps given vs k h not (fixed_length p) refl

-- ---- fronts that are passed over

skip_to : (f : List ValueTree × List ValueTree → List Way) (vs : List ValueTree) (d n : ℕ) → n + d ≤ suc (length vs) →
    ((k : ℕ) → n ≤ k → k < n + d → k ≤ length vs → f (take k vs, drop k vs) ≡ []) →
    flat_map f (drop n (splits vs)) ≡ flat_map f (drop (n + d) (splits vs))
skip_to f vs zero n h none = let e : n ≡ n + zero = omega arith in ap (λ k. flat_map f (drop k (splits vs))) e
skip_to f vs (suc d) n h none =
    let e : suc n + d ≡ n + suc d = omega arith in
    ap (flat_map f) (splits_at vs n (omega arith)) ∙
    ap (λ ws. ws ++ flat_map f (drop (suc n) (splits vs))) (none n (omega arith) (omega arith) (omega arith)) ∙
    skip_to f vs d (suc n) (omega arith) (λ k a b c. none k (omega arith) (omega arith) c) ∙
    ap (λ k. flat_map f (drop k (splits vs))) e

module _ (types : TypeName → Option RecordType) where
  skipped : (p : PatternTree) (ps : PatternTrees) (given vs : List ValueTree) (n m : ℕ) (ts : List TodoTree) → n ≤ m → m ≤ suc (length vs) →
      ((k : ℕ) → n ≤ k → k < m → MayTake p ps (length vs) k → ⊥) →
      all_ways types given (to_split (one_pattern p ps) vs n ∷ ts) ≡ all_ways types given (to_split (one_pattern p ps) vs m ∷ ts)
  unfolding all_ways
  skipped p ps given vs n m ts h l not =
      let e : n + (m - n) ≡ m = omega arith in
      let f : List ValueTree × List ValueTree → List Way =
      λ s. crossed (ways types p given (sequence (value_trees s.0))) (ways_of_fronts types ps (drop (brackets p) given) s.1) in
      ap (λ ws. crossed ws (all_ways types (drop (brackets p + brackets_among ps) given) ts))
      (skip_to f vs (m - n) n (omega arith) (λ k a b c. unfit types p ps given vs k c (not k a (omega arith))) ∙
      ap (λ k. flat_map f (drop k (splits vs))) e)

  past_all : (p : PatternTree) (ps : PatternTrees) (given vs : List ValueTree) (n : ℕ) (ts : List TodoTree) → length vs < n →
      all_ways types given (to_split (one_pattern p ps) vs n ∷ ts) ≡ []
  unfolding all_ways
  past_all p ps given vs n ts h =
      ap (λ cs. crossed (flat_map (λ s. crossed (ways types p given (sequence (value_trees s.0))) (ways_of_fronts types ps (drop (brackets p) given) s.1)) cs)
      (all_ways types (drop (brackets p + brackets_among ps) given) ts)) (splits_past vs n h)

  none_left : (p : PatternTree) (ps : PatternTrees) (given vs : List ValueTree) (n : ℕ) (ts : List TodoTree) →
      ((k : ℕ) → n ≤ k → MayTake p ps (length vs) k → ⊥) → all_ways types given (to_split (one_pattern p ps) vs n ∷ ts) ≡ []
  none_left p ps given vs n ts not =
      ⊎_elim
      (λ past. past_all p ps given vs n ts past)
      (λ within. skipped p ps given vs n (suc (length vs)) ts (omega arith) (omega arith) (λ k a b. not k a) ∙
      past_all p ps given vs (suc (length vs)) ts (omega arith))
      (below_or (length vs) n)

  pub split_never : (p : PatternTree) (ps qs : PatternTrees) (given vs : List ValueTree) (from items : ℕ) (ts : List TodoTree) →
      qs ≡ one_pattern p ps → items ≡ length vs → ((k : ℕ) → MayTake p ps items k → ⊥) → all_ways types given (to_split qs vs from ∷ ts) ≡ []
  split_never p ps qs given vs from items ts e l not =
      ap (λ rs. all_ways types given (to_split rs vs from ∷ ts)) e ∙
      none_left p ps given vs from ts (λ k a t. not k (subst (λ m. MayTake p ps m k) (sym l) t))

  -- the fronts that a pattern may take
  abbrev Between : PatternTree → PatternTrees → ℕ → ℕ → ℕ → Type 0
  Between p ps items least most = ((k : ℕ) → MayTake p ps items k → (least ≤ k) × (k ≤ most)) × (most ≤ items)

  split_never_from : (p : PatternTree) (ps qs : PatternTrees) (given vs : List ValueTree) (from items : ℕ) (ts : List TodoTree) →
      qs ≡ one_pattern p ps → items ≡ length vs → ((k : ℕ) → from ≤ k → MayTake p ps items k → ⊥) → all_ways types given (to_split qs vs from ∷ ts) ≡ []
  split_never_from p ps qs given vs from items ts e l not =
      ap (λ rs. all_ways types given (to_split rs vs from ∷ ts)) e ∙
      none_left p ps given vs from ts (λ k a t. not k a (subst (λ m. MayTake p ps m k) (sym l) t))

  pub split_nowhere : (p : PatternTree) (ps qs : PatternTrees) (given vs : List ValueTree) (from least most front items : ℕ) (ts : List TodoTree) →
      qs ≡ one_pattern p ps → items ≡ length vs → Between p ps items least most → front ≡ max from least → most < front →
      all_ways types given (to_split qs vs from ∷ ts) ≡ []
  split_nowhere p ps qs given vs from least most front items ts e l between is h =
      split_never_from p ps qs given vs from items ts e l
      (λ k a t. let low : least ≤ k = (between.0 k t).0 in let high : k ≤ most = (between.0 k t).1 in absurd (omega arith))

  pub split_first : (p : PatternTree) (ps qs : PatternTrees) (given vs : List ValueTree) (from least most front items : ℕ) (ts : List TodoTree) →
      qs ≡ one_pattern p ps → items ≡ length vs → Between p ps items least most → front ≡ max from least → front ≤ most →
      all_ways types given (to_split qs vs from ∷ ts) ≡
      all_ways types given (to_match p (sequence (value_trees (take front vs))) ∷ to_split ps (drop front vs) 0 ∷ ts) ++
      all_ways types given (to_split qs vs (front + 1) ∷ ts)
  split_first p ps qs given vs from least most front items ts e l between is h =
      let within : most ≤ items = between.1 in
      ap (λ rs. all_ways types given (to_split rs vs from ∷ ts)) e ∙
      skipped p ps given vs from front ts (omega arith) (omega arith)
      (λ k a b t. let low : least ≤ k = (between.0 k (subst (λ m. MayTake p ps m k) (sym l) t)).0 in absurd (omega arith)) ∙
      ap (λ rs. all_ways types given (to_split rs vs front ∷ ts)) (sym e) ∙
      split_step types p ps qs (take front vs) (drop front vs) vs given front (front + 1) ts e (omega arith) refl refl refl

  pub split_alone : (p : PatternTree) (ps qs : PatternTrees) (given vs : List ValueTree) (from least most front items : ℕ) (ts : List TodoTree) →
      qs ≡ one_pattern p ps → items ≡ length vs → Between p ps items least most → front ≡ max from least → front ≡ most →
      all_ways types given (to_split qs vs from ∷ ts) ≡
      all_ways types given (to_match p (sequence (value_trees (take front vs))) ∷ to_split ps (drop front vs) 0 ∷ ts)
  split_alone p ps qs given vs from least most front items ts e l between is h =
      split_first p ps qs given vs from least most front items ts e l between is (omega arith) ∙
      ap (λ ws. all_ways types given (to_match p (sequence (value_trees (take front vs))) ∷ to_split ps (drop front vs) 0 ∷ ts) ++ ws)
      (split_never_from p ps qs given vs (front + 1) items ts e l
      (λ k a t. let high : k ≤ most = (between.0 k t).1 in absurd (omega arith))) ∙
      append-nil (all_ways types given (to_match p (sequence (value_trees (take front vs))) ∷ to_split ps (drop front vs) 0 ∷ ts))
