-- How deep patterns are.
use Rattle.std.proofs.Common.{◌≡◌, ℕ, ◌+◌, ◌<◌, ◌≤◌, true, false, max, List, [], ◌∷◌, ◌++◌, length, Option, Some, None, refl, arith}
use Rattle.std.proofs.lemmas.List.{length-append}
use Rattle.vdm_kinds.specs.declared.name.Name.{Name}
use Rattle.vdm_kinds.specs.declared.name_at.TypeName.{TypeName}
use Rattle.vdm_kinds.specs.declared.place.Place.{Place}
use Rattle.abstract_syntax.specs.Depth.{pattern_depth, patterns_depth, maplet_patterns_depth}
use Rattle.abstract_syntax.specs.Literals.{LiteralTree, whole_literal, character_literal, text_literal, quote_literal, boolean_literal, nil_literal}
use Rattle.abstract_syntax.specs.Expressions.{ExprTree, PatternTree, PatternTrees, MapletPatterns, any_value, bound, literal_pattern, equal_to, set_pattern, sequence_pattern, map_pattern, empty_map_pattern, tuple_pattern, record_pattern, concatenation_pattern, no_patterns, one_pattern, no_maplet_patterns, one_maplet_pattern}
use Rattle.grammar_words.specs.declared.word.Word.TheVariants as word_is
use Rattle.grammar_words.specs.Tokens.{make_named}
use Rattle.grammar_words.specs.Written.{Written, at, word}
use Rattle.type_reading.specs.TypeSpelling.{literal_token, class_and_name, type_name_spelling}
use Rattle.grammar_trees.specs.Spelling.{spelling, pattern_spelling, patterns_spelling, further_patterns, further_joined, maplet_patterns_spelling, further_maplet_patterns}
use Rattle.grammar_trees.specs.Binding.{ArePatterns, AreSinglePatterns, IsSinglePattern, AreMapletPatterns, AreTwoPatterns, AreSomeMapletPatterns}
use Rattle.grammar_fronts.specs.declared.open_node.OpenNode.{OpenNode}
use Rattle.grammar_fronts.specs.declared.wanted.Wanted.{Wanted}
use Rattle.grammar_fronts.specs.declared.wanted.Wanted.TheVariants as want
use Rattle.grammar_fronts.specs.Turns.{begins}
use Rattle.grammar_fronts.specs.Patterns.{pattern}
use Rattle.front_laws.proofs.Passing.{written_word}
use Rattle.front_laws.proofs.Starts.{Starts, at_pattern, at_in_curly_pattern, at_in_square_pattern, at_pattern_parts}
use Rattle.front_laws.proofs.Fine.{node, Fine, raise, Calm}
use Rattle.front_laws.proofs.Nests.{Own, Part, regroup_own, regroup_fine, begun, own_of, next_word, word_behind, closes, lower, Joined, join_first, JoinedPart, join_more, join_end}
use Rattle.front_laws.proofs.DeepClaims.{ExprDeep, expr_part, IsLow, pattern_reach, PatternDeep, first_pattern, pattern_part, weak, PatternsDeep, MapletPatternsDeep}
use Rattle.front_laws.proofs.DeepParts.{more_patterns, more_pattern_pairs}

literal_begins : (value : LiteralTree) (place : Place) → pattern (written_word (at (literal_token value place))) ≡ Some (begins 0 [] (want.BehindPattern ∷ []))
literal_begins (whole_literal n) place = refl
literal_begins (character_literal c) place = refl
literal_begins (text_literal characters) place = refl
literal_begins (quote_literal name) place = refl
literal_begins (boolean_literal true) place = refl
literal_begins (boolean_literal false) place = refl
literal_begins nil_literal place = refl

regrouped : (x y k a : List Written) {below deep : ℕ} {nodes : List OpenNode} {wanted : List Wanted} → Own below deep nodes (((x ++ y) ++ k) ++ a) wanted
    → Own below deep nodes (x ++ (y ++ (k ++ a))) wanted
regrouped x y k a o = regroup_own x y (k ++ a) (regroup_own (x ++ y) k a o)

pub any_value-deep : (place : Place) → PatternDeep (any_value place)
any_value-deep place = record { deep = λ b low small is next more s behind nodes calm a f. closes (own_of (begun s calm small f refl)) (omega arith) }

pub bound-deep : (name : Name) (place : Place) → PatternDeep (bound name place)
bound-deep name place = record { deep = λ b low small is next more s behind nodes calm a f. closes (own_of (begun s calm small f refl)) (omega arith) }

pub literal_pattern-deep : (value : LiteralTree) (place : Place) → PatternDeep (literal_pattern value place)
literal_pattern-deep value place = record { deep = λ b low small is next more s behind nodes calm a f. closes (own_of (begun s calm small f (literal_begins value place))) (omega arith) }

pub equal_to-deep : (inner : ExprTree) (place : Place) → ExprDeep inner → PatternDeep (equal_to inner place)
equal_to-deep inner place t = record { deep = λ b low small is next more s behind nodes calm a f. closes (word_behind (expr_part t b (regroup_own (spelling inner) ((word word_is.CloseRound ∷ [])) (a) (own_of (begun s calm small f refl))) (omega arith) (refl, refl)) refl (omega arith) (omega arith)) (omega arith) }

pub empty_map_pattern-deep : (place : Place) → PatternDeep (empty_map_pattern place)
empty_map_pattern-deep place = record { deep = λ b low small is next more s behind nodes calm a f. closes (next_word (next_word (own_of (begun s calm small f refl)) refl (omega arith)) refl (omega arith)) (omega arith) }

pub set_in : (parts : PatternTrees) → PatternsDeep parts → ArePatterns parts → {below deep : ℕ} {nodes : List OpenNode} {behind : List Wanted} (a : List Written)
    → Own below deep nodes ((patterns_spelling parts ++ (word word_is.CloseCurly ∷ [])) ++ a) (want.InCurlyPattern ∷ behind) → below ≤ length behind
    → Own below (max deep (patterns_depth parts)) nodes a behind
set_in no_patterns t b a o less =
    weak (next_word (o) refl (omega arith)) (omega arith)
set_in (one_pattern p no_patterns) t b a o less =
    weak (word_behind (first_pattern t.0 b.0 at_in_curly_pattern (regrouped (pattern_spelling p) ([]) (word word_is.CloseCurly ∷ []) a (o)) (omega arith)) refl (omega arith) (omega arith)) (omega arith)
set_in (one_pattern p (one_pattern p2 ps)) t b a o less =
    weak (word_behind (more_patterns ps t.1.1 b.1.1 (word word_is.CloseCurly ∷ a) (pattern_part t.1.0 b.1.0 (regroup_own (pattern_spelling p2) (further_patterns ps) ((word word_is.CloseCurly ∷ a)) (word_behind (first_pattern t.0 b.0 at_in_curly_pattern (regrouped (pattern_spelling p) (further_patterns (one_pattern p2 ps)) (word word_is.CloseCurly ∷ []) a (o)) (omega arith)) refl (omega arith) (omega arith))) (omega arith)) (omega arith)) refl (omega arith) (omega arith)) (omega arith)

pub sequence_in : (parts : PatternTrees) → PatternsDeep parts → ArePatterns parts → {below deep : ℕ} {nodes : List OpenNode} {behind : List Wanted} (a : List Written)
    → Own below deep nodes ((patterns_spelling parts ++ (word word_is.CloseSquare ∷ [])) ++ a) (want.InSquarePattern ∷ behind) → below ≤ length behind
    → Own below (max deep (patterns_depth parts)) nodes a behind
sequence_in no_patterns t b a o less =
    weak (next_word (o) refl (omega arith)) (omega arith)
sequence_in (one_pattern p ps) t b a o less =
    weak (word_behind (more_patterns ps t.1 b.1 (word word_is.CloseSquare ∷ a) (first_pattern t.0 b.0 at_in_square_pattern (regrouped (pattern_spelling p) (further_patterns ps) (word word_is.CloseSquare ∷ []) a (o)) (omega arith)) (omega arith)) refl (omega arith) (omega arith)) (omega arith)

pub parts_in : (parts : PatternTrees) → PatternsDeep parts → ArePatterns parts → {below deep : ℕ} {nodes : List OpenNode} {behind : List Wanted} (a : List Written)
    → Own below deep nodes ((patterns_spelling parts ++ (word word_is.CloseRound ∷ [])) ++ a) (want.PatternParts ∷ behind) → below ≤ length behind
    → Own below (max deep (patterns_depth parts)) nodes a behind
parts_in no_patterns t b a o less =
    weak (next_word (o) refl (omega arith)) (omega arith)
parts_in (one_pattern p ps) t b a o less =
    weak (word_behind (more_patterns ps t.1 b.1 (word word_is.CloseRound ∷ a) (first_pattern t.0 b.0 at_pattern_parts (regrouped (pattern_spelling p) (further_patterns ps) (word word_is.CloseRound ∷ []) a (o)) (omega arith)) (omega arith)) refl (omega arith) (omega arith)) (omega arith)

pub tuple_in : (parts : PatternTrees) → PatternsDeep parts → ArePatterns parts → AreTwoPatterns parts → {below deep : ℕ} {nodes : List OpenNode} {behind : List Wanted} (a : List Written)
    → Own below deep nodes ((patterns_spelling parts ++ (word word_is.CloseRound ∷ [])) ++ a) (want.Pattern ∷ want.Comma ∷ want.Pattern ∷ want.MorePatterns ∷ want.CloseRound ∷ behind) → below ≤ length behind
    → Own below (max deep (patterns_depth parts)) nodes a behind
tuple_in no_patterns t b two a o less =
    absurd two
tuple_in (one_pattern p no_patterns) t b two a o less =
    absurd two
tuple_in (one_pattern p (one_pattern p2 ps)) t b two a o less =
    weak (word_behind (more_patterns ps t.1.1 b.1.1 (word word_is.CloseRound ∷ a) (pattern_part t.1.0 b.1.0 (regroup_own (pattern_spelling p2) (further_patterns ps) ((word word_is.CloseRound ∷ a)) (word_behind (pattern_part t.0 b.0 (regrouped (pattern_spelling p) (further_patterns (one_pattern p2 ps)) (word word_is.CloseRound ∷ []) a (o)) (omega arith)) refl (omega arith) (omega arith))) (omega arith)) (omega arith)) refl (omega arith) (omega arith)) (omega arith)

pub map_in : (parts : MapletPatterns) → MapletPatternsDeep parts → AreMapletPatterns parts → AreSomeMapletPatterns parts → {below deep : ℕ} {nodes : List OpenNode} {behind : List Wanted} (a : List Written)
    → Own below deep nodes ((maplet_patterns_spelling parts ++ (word word_is.CloseCurly ∷ [])) ++ a) (want.InCurlyPattern ∷ behind) → below ≤ length behind
    → Own below (max deep (maplet_patterns_depth parts)) nodes a behind
map_in no_maplet_patterns t b some a o less =
    absurd some
map_in (one_maplet_pattern k v ms) t b some a o less =
    weak (word_behind (more_pattern_pairs ms t.2 b.2 (word word_is.CloseCurly ∷ a) (pattern_part t.1 b.1 (regroup_own (pattern_spelling v) (further_maplet_patterns ms) ((word word_is.CloseCurly ∷ a)) (word_behind (first_pattern t.0 b.0 at_in_curly_pattern (regroup_own (pattern_spelling k) (_) ((word word_is.CloseCurly ∷ a)) (regroup_own (maplet_patterns_spelling (one_maplet_pattern k v ms)) ((word word_is.CloseCurly ∷ [])) (a) (o))) (omega arith)) refl (omega arith) (omega arith))) (omega arith)) (omega arith)) refl (omega arith) (omega arith)) (omega arith)

pub set_pattern-deep : (ps : PatternTrees) (place : Place) → PatternsDeep ps → PatternDeep (set_pattern ps place)
set_pattern-deep ps place t = record { deep = λ b low small is next more s behind nodes calm a f. closes (set_in ps t b a (own_of (begun s calm small f refl)) (omega arith)) (omega arith) }

pub sequence_pattern-deep : (ps : PatternTrees) (place : Place) → PatternsDeep ps → PatternDeep (sequence_pattern ps place)
sequence_pattern-deep ps place t = record { deep = λ b low small is next more s behind nodes calm a f. closes (sequence_in ps t b a (own_of (begun s calm small f refl)) (omega arith)) (omega arith) }

pub map_pattern-deep : (ms : MapletPatterns) (place : Place) → MapletPatternsDeep ms → PatternDeep (map_pattern ms place)
map_pattern-deep ms place t = record { deep = λ b low small is next more s behind nodes calm a f. closes (map_in ms t b.1 b.0 a (own_of (begun s calm small f refl)) (omega arith)) (omega arith) }

pub tuple_pattern-deep : (ps : PatternTrees) (place : Place) → PatternsDeep ps → PatternDeep (tuple_pattern ps place)
tuple_pattern-deep ps place t = record { deep = λ b low small is next more s behind nodes calm a f. closes (tuple_in ps t b.1 b.0 a (next_word (own_of (begun s calm small f refl)) refl (omega arith)) (omega arith)) (omega arith) }

of_class : (class : Option Name) (name : Name) (name_place place : Place) (next : Wanted) (more : List Wanted) → Starts pattern next more
    → (low : ℕ) → low ≤ 31 → (behind : List Wanted) (nodes : List OpenNode) → Calm (length behind + 1) low nodes → (a : List Written)
    → Fine (class_and_name make_named class name name_place place ++ (word word_is.OpenRound ∷ a)) (next ∷ behind) nodes
    → Own (length (want.BehindPattern ∷ (more ++ behind))) 0 nodes a (want.PatternParts ∷ want.BehindPattern ∷ (more ++ behind))
of_class None name name_place place next more s low small behind nodes calm a f = next_word (own_of (begun s calm small f refl)) refl (omega arith)
of_class (Some class) name name_place place next more s low small behind nodes calm a f = next_word (next_word (next_word (own_of (begun s calm small f refl)) refl (omega arith)) refl (omega arith)) refl (omega arith)

pub record_pattern-deep : (type_name : TypeName) (ps : PatternTrees) (place : Place) → PatternsDeep ps → PatternDeep (record_pattern type_name ps place)
record_pattern-deep type_name ps place t = record { deep = λ b low small is next more s behind nodes calm a f. closes (parts_in ps t b.1 a (of_class type_name.class type_name.name type_name.name_place place next more s low small behind nodes calm _ (regroup_fine (type_name_spelling make_named type_name place) _ a f)) (omega arith)) (omega arith) }

calm_behind : (more behind : List Wanted) (low : ℕ) (nodes : List OpenNode) → Calm (length behind + 1) low nodes → Calm (length (more ++ behind) + 1) low nodes
calm_behind more behind low [] calm = tt
calm_behind more behind low (n ∷ nodes) calm =
    let sum : length (more ++ behind) ≡ length more + length behind = length-append more behind in
    let c = calm.0 in
    (omega arith, calm.1)

single_low : (p : PatternTree) → IsSinglePattern p → (low : ℕ) → IsLow p low
single_low (any_value place) is low = tt
single_low (bound name place) is low = tt
single_low (literal_pattern value place) is low = tt
single_low (equal_to inner place) is low = tt
single_low (set_pattern ps place) is low = tt
single_low (sequence_pattern ps place) is low = tt
single_low (map_pattern ms place) is low = tt
single_low (empty_map_pattern place) is low = tt
single_low (tuple_pattern ps place) is low = tt
single_low (record_pattern type_name ps place) is low = tt
single_low (concatenation_pattern ps place) is low = absurd is

single_reach : (p : PatternTree) → IsSinglePattern p → 2 < pattern_reach p
single_reach (any_value place) is = omega arith
single_reach (bound name place) is = omega arith
single_reach (literal_pattern value place) is = omega arith
single_reach (equal_to inner place) is = omega arith
single_reach (set_pattern ps place) is = omega arith
single_reach (sequence_pattern ps place) is = omega arith
single_reach (map_pattern ms place) is = omega arith
single_reach (empty_map_pattern place) is = omega arith
single_reach (tuple_pattern ps place) is = omega arith
single_reach (record_pattern type_name ps place) is = omega arith
single_reach (concatenation_pattern ps place) is = absurd is

more_joined : (ps : PatternTrees) → PatternsDeep ps → AreSinglePatterns ps → {deep reach : ℕ} {behind : List Wanted} {nodes : List OpenNode} (a : List Written)
    → 2 < reach → JoinedPart want.BehindPattern 2 deep reach behind nodes (further_joined ps ++ a)
    → Part (max deep (patterns_depth ps) + 1) 2 want.BehindPattern behind nodes a
more_joined no_patterns t b a less j = join_end j (omega arith) (omega arith)
more_joined (one_pattern p ps) t b {deep = deep} {behind = behind} {nodes = nodes} a less j =
    let next : Joined want.Pattern 2 deep behind nodes ((pattern_spelling p ++ further_joined ps) ++ a) = join_more j refl (omega arith) less in
    let f = regroup_fine (pattern_spelling p) (further_joined ps) a next.fine in
    let part = t.0.deep b.1 2 (omega arith) (single_low p b.0 2) want.Pattern [] at_pattern behind (node 2 next.deepest (length behind) ∷ raise next.hidden nodes)
    (omega arith, omega arith) (further_joined ps ++ a) f in
    let least = next.least in
    lower (omega arith) (more_joined ps t.1 b.2 {deep = max deep (pattern_depth p)} a (single_reach p b.0)
    (record { own = next.deepest; depth = pattern_depth p; bound = omega arith; hidden = next.hidden; hides = next.hides; part = part }))

pub concatenation_pattern-deep : (ps : PatternTrees) (place : Place) → PatternsDeep ps → PatternDeep (concatenation_pattern ps place)
concatenation_pattern-deep no_patterns place t = record { deep = λ b low small is next more s behind nodes calm a f. absurd b.0 }
concatenation_pattern-deep (one_pattern p no_patterns) place t = record { deep = λ b low small is next more s behind nodes calm a f. absurd b.0 }
concatenation_pattern-deep (one_pattern p (one_pattern p2 ps)) place t = record {
  deep = λ b low small is next more s behind nodes calm a f.
      let rest = further_joined (one_pattern p2 ps) in
      let first = t.0.deep b.2.1 low small (single_low p b.2.0 low) next more s behind nodes calm (rest ++ a) (regroup_fine (pattern_spelling p) rest a f) in
      let joined : Joined want.Pattern 2 (pattern_depth p) (more ++ behind) nodes ((pattern_spelling p2 ++ further_joined ps) ++ a) =
      join_first first refl (omega arith) (single_reach p b.2.0) low (calm_behind more behind low nodes calm) (omega arith) in
      let f2 = regroup_fine (pattern_spelling p2) (further_joined ps) a joined.fine in
      let part = t.1.0.deep b.2.2.1 2 (omega arith) (single_low p2 b.2.2.0 2) want.Pattern [] at_pattern (more ++ behind)
      (node 2 joined.deepest (length (more ++ behind)) ∷ raise joined.hidden nodes) (omega arith, omega arith) (further_joined ps ++ a) f2 in
      let least = joined.least in
      lower (omega arith) (more_joined ps t.1.1 b.2.2.2 {deep = max (pattern_depth p) (pattern_depth p2)} a (single_reach p2 b.2.2.0)
      (record { own = joined.deepest; depth = pattern_depth p2; bound = omega arith; hidden = joined.hidden; hides = joined.hides; part = part }));
}
