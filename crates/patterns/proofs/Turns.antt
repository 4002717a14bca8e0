-- The ways of what comes next, by what is made of it.
use Rattle.std.proofs.Common.{◌≡◌, ℕ, suc, ◌+◌, ◌<◌, ◌≤◌, List, [], ◌∷◌, ◌++◌, flat_map, length, take, drop, get_or, refl, ap, sym, ◌∙◌, arith, Option}
use Rattle.vdm_kinds.specs.declared.name_at.TypeName.{TypeName}
use Rattle.abstract_syntax.specs.Expressions.{PatternTree, PatternTrees, MapletPatterns, no_patterns, one_pattern, no_maplet_patterns, one_maplet_pattern}
use Rattle.abstract_syntax.specs.Values.{ValueTree, sequence, value_trees}
use Rattle.abstract_syntax.specs.ValueSets.{Entry}
use Rattle.pattern_meaning.specs.Choices.{choices, splits}
use Rattle.pattern_meaning.specs.RecordTypes.{RecordType}
use Rattle.pattern_meaning.specs.Ways.{Way, crossed, brackets, brackets_among, brackets_in, ways, ways_of_items, ways_of_set, ways_of_map, ways_of_fronts}
use Rattle.patterns.specs.Todos.{TodoTree, to_match, to_match_items, to_choose, to_choose_pair, to_split, all_ways}
use Rattle.patterns.proofs.Picked.{drop_more, choices_at, choices_past, splits_at, splits_past}
use Rattle.patterns.proofs.Crossed.{crossed-plainly, crossed-append, crossed-crossed}
use Rattle.patterns.proofs.Opening.{choose_from_the_first, choose_pair_from_the_first, from_the_first}

module _ (types : TypeName → Option RecordType) where
  pub items_none : (ps : PatternTrees) (vs given : List ValueTree) (ts : List TodoTree) → ps ≡ no_patterns →
      all_ways types given ts ≡ all_ways types given (to_match_items ps vs ∷ ts)
  unfolding all_ways
  items_none ps vs given ts e =
      sym (crossed-plainly (all_ways types given ts)) ∙ ap (λ qs. all_ways types given (to_match_items qs vs ∷ ts)) (sym e)

  pub items_short : (p : PatternTree) (ps qs : PatternTrees) (vs given : List ValueTree) (ts : List TodoTree) → qs ≡ one_pattern p ps → vs ≡ [] →
      all_ways types given (to_match_items qs vs ∷ ts) ≡ []
  unfolding all_ways
  items_short p ps qs vs given ts e f = λ i. all_ways types given (to_match_items (e i) (f i) ∷ ts)

  pub items_step : (p : PatternTree) (ps qs : PatternTrees) (v : ValueTree) (vs ws given : List ValueTree) (ts : List TodoTree) →
      qs ≡ one_pattern p ps → ws ≡ v ∷ vs →
      all_ways types given (to_match p v ∷ to_match_items ps vs ∷ ts) ≡ all_ways types given (to_match_items qs ws ∷ ts)
  unfolding all_ways
  items_step p ps qs v vs ws given ts e f =
      sym (crossed-crossed (ways types p given v) (ways_of_items types ps (drop (brackets p) given) vs)
      (all_ways types (drop (brackets_among ps) (drop (brackets p) given)) ts)) ∙
      ap (λ more. crossed (crossed (ways types p given v) (ways_of_items types ps (drop (brackets p) given) vs)) (all_ways types more ts))
      (sym (drop_more (brackets p) (brackets_among ps) given)) ∙
      (λ i. all_ways types given (to_match_items (sym e i) (sym f i) ∷ ts))

  pub choose_none : (ps : PatternTrees) (vs given : List ValueTree) (n : ℕ) (ts : List TodoTree) → ps ≡ no_patterns →
      all_ways types given ts ≡ all_ways types given (to_choose ps vs n ∷ ts)
  unfolding all_ways
  choose_none ps vs given n ts e =
      sym (crossed-plainly (all_ways types given ts)) ∙ ap (λ qs. all_ways types given (to_choose qs vs n ∷ ts)) (sym e)

  pub choose_past : (p : PatternTree) (ps qs : PatternTrees) (vs given : List ValueTree) (n : ℕ) (ts : List TodoTree) → qs ≡ one_pattern p ps →
      length vs ≤ n → all_ways types given (to_choose qs vs n ∷ ts) ≡ []
  unfolding all_ways
  choose_past p ps qs vs given n ts e h =
      ap (λ rs. all_ways types given (to_choose rs vs n ∷ ts)) e ∙
      ap (λ cs. crossed (flat_map (λ c. crossed (ways types p given c.0) (ways_of_set types ps (drop (brackets p) given) c.1)) cs)
      (all_ways types (drop (brackets p + brackets_among ps) given) ts)) (choices_past vs n h)

  pub choose_step : (p : PatternTree) (ps qs : PatternTrees) (x : ValueTree) (rest vs given : List ValueTree) (n m : ℕ) (ts : List TodoTree) →
      qs ≡ one_pattern p ps → n < length vs → x ≡ get_or vs n x → rest ≡ take n vs ++ drop m vs → m ≡ n + 1 →
      all_ways types given (to_choose qs vs n ∷ ts) ≡
      all_ways types given (to_match p x ∷ to_choose ps rest 0 ∷ ts) ++ all_ways types given (to_choose qs vs m ∷ ts)
  unfolding all_ways
  choose_step p ps qs x rest vs given n m ts e h is r one =
      let f : ValueTree × List ValueTree → List Way = λ c. crossed (ways types p given c.0) (ways_of_set types ps (drop (brackets p) given) c.1) in
      let more : List Way = all_ways types (drop (brackets p + brackets_among ps) given) ts in
      let next : m ≡ suc n = omega arith in
      let left : take n vs ++ drop (suc n) vs ≡ rest = ap (λ k. take n vs ++ drop k vs) (sym next) ∙ sym r in
      ap (λ rs. all_ways types given (to_choose rs vs n ∷ ts)) e ∙
      ap (λ cs. crossed (flat_map f cs) more) (choices_at vs n x h is ∙ (λ i. (x, left i) ∷ drop (sym next i) (choices vs))) ∙
      crossed-append (f (x, rest)) (flat_map f (drop m (choices vs))) more ∙
      (λ i. (crossed-crossed (ways types p given x) (ways_of_set types ps (drop (brackets p) given) rest) more ∙
      (λ j. crossed (ways types p given x) (crossed (choose_from_the_first types ps rest rest (drop (brackets p) given) refl j)
      (all_ways types (drop_more (brackets p) (brackets_among ps) given j) ts)))) i ++
      all_ways types given (to_choose (sym e i) vs m ∷ ts))

  pub pair_none : (ms : MapletPatterns) (es : List Entry) (given : List ValueTree) (n : ℕ) (ts : List TodoTree) → ms ≡ no_maplet_patterns →
      all_ways types given ts ≡ all_ways types given (to_choose_pair ms es n ∷ ts)
  unfolding all_ways
  pair_none ms es given n ts e =
      sym (crossed-plainly (all_ways types given ts)) ∙ ap (λ qs. all_ways types given (to_choose_pair qs es n ∷ ts)) (sym e)

  pub pair_past : (p q : PatternTree) (ms ns : MapletPatterns) (es : List Entry) (given : List ValueTree) (n : ℕ) (ts : List TodoTree) →
      ns ≡ one_maplet_pattern p q ms → length es ≤ n → all_ways types given (to_choose_pair ns es n ∷ ts) ≡ []
  unfolding all_ways
  pair_past p q ms ns es given n ts e h =
      ap (λ rs. all_ways types given (to_choose_pair rs es n ∷ ts)) e ∙
      ap (λ cs. crossed (flat_map (λ c. crossed (ways types p given c.0.0) (crossed (ways types q (drop (brackets p) given) c.0.1)
      (ways_of_map types ms (drop (brackets q) (drop (brackets p) given)) c.1))) cs)
      (all_ways types (drop (brackets p + brackets q + brackets_in ms) given) ts)) (choices_past es n h)

  pub pair_step : (p q : PatternTree) (ms ns : MapletPatterns) (x : Entry) (rest es : List Entry) (given : List ValueTree) (n m : ℕ)
      (ts : List TodoTree) → ns ≡ one_maplet_pattern p q ms → n < length es → x ≡ get_or es n x → rest ≡ take n es ++ drop m es → m ≡ n + 1 →
      all_ways types given (to_choose_pair ns es n ∷ ts) ≡
      all_ways types given (to_match p x.0 ∷ to_match q x.1 ∷ to_choose_pair ms rest 0 ∷ ts) ++
      all_ways types given (to_choose_pair ns es m ∷ ts)
  unfolding all_ways
  pair_step p q ms ns x rest es given n m ts e h is r one =
      let g : List ValueTree = drop (brackets p) given in
      let f : Entry × List Entry → List Way =
      λ c. crossed (ways types p given c.0.0) (crossed (ways types q (drop (brackets p) given) c.0.1)
      (ways_of_map types ms (drop (brackets q) (drop (brackets p) given)) c.1)) in
      let more : List Way = all_ways types (drop (brackets p + brackets q + brackets_in ms) given) ts in
      let next : m ≡ suc n = omega arith in
      let left : take n es ++ drop (suc n) es ≡ rest = ap (λ k. take n es ++ drop k es) (sym next) ∙ sym r in
      let dropped : drop (brackets p + brackets q + brackets_in ms) given ≡ drop (brackets_in ms) (drop (brackets q) (drop (brackets p) given)) =
      drop_more (brackets p + brackets q) (brackets_in ms) given ∙
      ap (drop (brackets_in ms)) (drop_more (brackets p) (brackets q) given) in
      ap (λ rs. all_ways types given (to_choose_pair rs es n ∷ ts)) e ∙
      ap (λ cs. crossed (flat_map f cs) more) (choices_at es n x h is ∙ (λ i. (x, left i) ∷ drop (sym next i) (choices es))) ∙
      crossed-append (f (x, rest)) (flat_map f (drop m (choices es))) more ∙
      (λ i. (crossed-crossed (ways types p given x.0) (crossed (ways types q g x.1) (ways_of_map types ms (drop (brackets q) g) rest)) more ∙
      ap (crossed (ways types p given x.0)) (crossed-crossed (ways types q g x.1) (ways_of_map types ms (drop (brackets q) g) rest) more) ∙
      (λ j. crossed (ways types p given x.0) (crossed (ways types q g x.1)
      (crossed (choose_pair_from_the_first types ms rest rest (drop (brackets q) g) refl j) (all_ways types (dropped j) ts))))) i ++
      all_ways types given (to_choose_pair (sym e i) es m ∷ ts))

  pub split_none : (qs : PatternTrees) (vs given : List ValueTree) (n : ℕ) (ts : List TodoTree) → qs ≡ no_patterns → vs ≡ [] →
      all_ways types given ts ≡ all_ways types given (to_split qs vs n ∷ ts)
  unfolding all_ways
  split_none qs vs given n ts e f =
      sym (crossed-plainly (all_ways types given ts)) ∙ (λ i. all_ways types given (to_split (sym e i) (sym f i) n ∷ ts))

  leaves_some : (vs given : List ValueTree) (n : ℕ) (ts : List TodoTree) → (vs ≡ [] → ⊥) → all_ways types given (to_split no_patterns vs n ∷ ts) ≡ []
  unfolding all_ways
  leaves_some [] given n ts f = absurd (f refl)
  leaves_some (v ∷ vs) given n ts f = refl

  pub split_more : (qs : PatternTrees) (vs given : List ValueTree) (n : ℕ) (ts : List TodoTree) → qs ≡ no_patterns → (vs ≡ [] → ⊥) →
      all_ways types given (to_split qs vs n ∷ ts) ≡ []
  split_more qs vs given n ts e f = ap (λ rs. all_ways types given (to_split rs vs n ∷ ts)) e ∙ leaves_some vs given n ts f

  pub split_past : (p : PatternTree) (ps qs : PatternTrees) (vs given : List ValueTree) (n : ℕ) (ts : List TodoTree) → qs ≡ one_pattern p ps →
      length vs < n → all_ways types given (to_split qs vs n ∷ ts) ≡ []
  unfolding all_ways
  split_past p ps qs vs given n ts e h =
      ap (λ rs. all_ways types given (to_split rs vs n ∷ ts)) e ∙
      ap (λ cs. crossed (flat_map (λ s. crossed (ways types p given (sequence (value_trees s.0))) (ways_of_fronts types ps (drop (brackets p) given) s.1)) cs)
      (all_ways types (drop (brackets p + brackets_among ps) given) ts)) (splits_past vs n h)

  pub split_step : (p : PatternTree) (ps qs : PatternTrees) (front rest vs given : List ValueTree) (n m : ℕ) (ts : List TodoTree) →
      qs ≡ one_pattern p ps → n ≤ length vs → front ≡ take n vs → rest ≡ drop n vs → m ≡ n + 1 →
      all_ways types given (to_split qs vs n ∷ ts) ≡
      all_ways types given (to_match p (sequence (value_trees front)) ∷ to_split ps rest 0 ∷ ts) ++
      all_ways types given (to_split qs vs m ∷ ts)
  unfolding all_ways
  split_step p ps qs front rest vs given n m ts e h is r one =
      let f : List ValueTree × List ValueTree → List Way =
      λ s. crossed (ways types p given (sequence (value_trees s.0))) (ways_of_fronts types ps (drop (brackets p) given) s.1) in
      let more : List Way = all_ways types (drop (brackets p + brackets_among ps) given) ts in
      let next : m ≡ suc n = omega arith in
      ap (λ rs. all_ways types given (to_split rs vs n ∷ ts)) e ∙
      ap (λ cs. crossed (flat_map f cs) more) (splits_at vs n h ∙ (λ i. (sym is i, sym r i) ∷ drop (sym next i) (splits vs))) ∙
      crossed-append (f (front, rest)) (flat_map f (drop m (splits vs))) more ∙
      (λ i. (crossed-crossed (ways types p given (sequence (value_trees front))) (ways_of_fronts types ps (drop (brackets p) given) rest) more ∙
      (λ j. crossed (ways types p given (sequence (value_trees front))) (crossed (from_the_first types ps rest (drop (brackets p) given) j)
      (all_ways types (drop_more (brackets p) (brackets_among ps) given j) ts)))) i ++
      all_ways types given (to_split (sym e i) vs m ∷ ts))
