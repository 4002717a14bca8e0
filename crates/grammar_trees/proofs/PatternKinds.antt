-- Each kind of pattern is read.
use Rattle.std.proofs.Common.{◌≡◌, ℕ, true, false, List, [], ◌∷◌, ◌++◌, refl, subst}
use Rattle.abstract_syntax.specs.Expressions.{ExprTree, PatternTree, PatternTrees, MapletPatterns, any_value, bound, literal_pattern, equal_to, set_pattern, sequence_pattern, map_pattern, empty_map_pattern, tuple_pattern, record_pattern, no_patterns, one_pattern, no_maplet_patterns, one_maplet_pattern}
use Rattle.grammar_words.specs.Pulls.{closed}
use Rattle.type_reading.specs.TypeSpelling.{literal_token}
use Rattle.grammar_trees.specs.Spelling.{pattern_spelling, patterns_spelling, further_patterns, maplet_patterns_spelling, further_maplet_patterns}
use Rattle.grammar_trees.specs.Binding.{AreTwoPatterns, AreSomeMapletPatterns, IsPattern, ArePatterns, AreMapletPatterns}
use Rattle.grammar_trees.specs.Lists.{then_patterns, then_maplet_patterns, and_pattern, and_maplet_pattern, only_pattern}
use Rattle.grammar_trees.specs.Frames.{PatternsFor, Frame, set_like, sequence_like, tuple_like, record_like, pattern_items, tuple_pattern_start, pattern_value, made_pattern, wants_pattern, has_pattern}
use Rattle.grammar_trees.specs.Machine.{in_mode, want_pattern, whole_patterns, joins, TypeReader, step}
use Rattle.grammar_words.specs.Tokens.{identifier, make_named, plain}
use Rattle.grammar_words.specs.Written.{word}
use Rattle.abstract_syntax.specs.Literals.{LiteralTree, whole_literal, character_literal, text_literal, quote_literal, boolean_literal, nil_literal}
use Rattle.vdm_kinds.specs.declared.name.Name.{Name}
use Rattle.vdm_kinds.specs.declared.place.Place.{Place}
use Rattle.vdm_kinds.specs.declared.name_at.TypeName.{TypeName}
use Rattle.grammar_words.specs.declared.word.Word.{Word}
use Rattle.grammar_words.specs.declared.word.Word.TheVariants as word_is
use Rattle.vdm_kinds.specs.declared.sign.Sign.TheVariants as sign_is
use Rattle.grammar_trees.proofs.Ends.{word_below}
use Rattle.grammar_trees.proofs.Leading.{nothing_more, at_token, at_any, regroup, below_one, small, part, Leads, Taken}
use Rattle.grammar_trees.proofs.Assoc.{patterns-assoc, maplet_patterns-assoc}
use Rattle.grammar_trees.proofs.Simple.{type_name-leads}
use Rattle.grammar_trees.proofs.PatternParts.{single-taken, below_closed, pattern_part, PatternsTaken, MapletPatternsTaken, PatternTaken}

-- ---- single patterns

pub any_value-taken : (types : TypeReader) (place : Place) → PatternTaken types (any_value place)
any_value-taken types place = single-taken types (any_value place) (λ g fs. at_token (plain (word_is.Operator sign_is.Minus) place) refl nothing_more)

pub bound-taken : (types : TypeReader) (name : Name) (place : Place) → PatternTaken types (bound name place)
bound-taken types name place = single-taken types (bound name place) (λ g fs. at_token (identifier name place) refl nothing_more)

want_literal_pattern : (value : LiteralTree) (place : Place) (fs : List Frame) → want_pattern (literal_token value place) fs ≡ in_mode (has_pattern (literal_pattern value place)) fs
want_literal_pattern (whole_literal n) place fs = refl
want_literal_pattern (character_literal c) place fs = refl
want_literal_pattern (text_literal characters) place fs = refl
want_literal_pattern (quote_literal name) place fs = refl
want_literal_pattern (boolean_literal true) place fs = refl
want_literal_pattern (boolean_literal false) place fs = refl
want_literal_pattern nil_literal place fs = refl

pub literal_pattern-taken : (types : TypeReader) (value : LiteralTree) (place : Place) → PatternTaken types (literal_pattern value place)
literal_pattern-taken types value place = single-taken types (literal_pattern value place) (λ g fs. at_token (literal_token value place) (want_literal_pattern value place fs) nothing_more)

pub equal_to-taken : (types : TypeReader) (inner : ExprTree) (place : Place) → Taken types inner → PatternTaken types (equal_to inner place)
equal_to-taken types inner place t =
    single-taken types (equal_to inner place) (λ g fs. at_token (plain word_is.OpenRound place) refl (part inner word_is.CloseRound t g below_one small (λ spot. refl) nothing_more))

pub empty_map_pattern-taken : (types : TypeReader) (place : Place) → PatternTaken types (empty_map_pattern place)
empty_map_pattern-taken types place =
    single-taken types (empty_map_pattern place) (λ g fs. at_token (plain word_is.OpenCurly place) refl (at_any word_is.MapsTo (λ spot. refl) (at_any word_is.CloseCurly (λ spot. refl) nothing_more)))

-- ---- lists of patterns

abbrev pub pattern_closer : PatternsFor → Word
pattern_closer set_like = word_is.CloseCurly
pattern_closer sequence_like = word_is.CloseSquare
pattern_closer tuple_like = word_is.CloseRound
pattern_closer (record_like type_name) = word_is.CloseRound

closer-below : (listed : PatternsFor) → word_below (pattern_closer listed) closed
closer-below set_like = below_closed
closer-below sequence_like = below_closed
closer-below tuple_like = below_closed
closer-below (record_like type_name) = below_closed

closer-unjoined : (listed : PatternsFor) → joins (pattern_closer listed) ≡ false
closer-unjoined set_like = refl
closer-unjoined sequence_like = refl
closer-unjoined tuple_like = refl
closer-unjoined (record_like type_name) = refl

closes-patterns : (types : TypeReader) (listed : PatternsFor) (ps : PatternTrees) (p : PatternTree) (place spot : Place) (fs : List Frame) → step types (in_mode (has_pattern p) (pattern_items listed ps place ∷ fs)) (plain (pattern_closer listed) spot) ≡ in_mode (has_pattern (whole_patterns listed (and_pattern ps p) place)) fs
closes-patterns types set_like no_patterns p place spot fs = refl
closes-patterns types set_like (one_pattern q ps) p place spot fs = refl
closes-patterns types sequence_like ps p place spot fs = refl
closes-patterns types tuple_like ps p place spot fs = refl
closes-patterns types (record_like type_name) ps p place spot fs = refl

patterns-leads : (types : TypeReader) (n : ℕ) (listed : PatternsFor) (ps done : PatternTrees) (p : PatternTree) (place : Place) (fs : List Frame) → PatternTaken types p → PatternsTaken types ps → IsPattern p → ArePatterns ps → Leads types n (patterns_spelling (one_pattern p ps) ++ word (pattern_closer listed) ∷ []) (in_mode wants_pattern (pattern_items listed done place ∷ fs)) (in_mode (has_pattern (whole_patterns listed (then_patterns done (one_pattern p ps)) place)) fs)
patterns-leads types n listed no_patterns done p place fs t ts g gs =
    regroup (pattern_spelling p) [] (word (pattern_closer listed) ∷ []) (pattern_part p (pattern_closer listed) t g tt (closer-below listed) (closer-unjoined listed) (λ spot. closes-patterns types listed done p place spot fs) nothing_more)
patterns-leads types n listed (one_pattern next ps) done p place fs t ts g gs =
    regroup (pattern_spelling p) (further_patterns (one_pattern next ps)) (word (pattern_closer listed) ∷ []) (pattern_part p word_is.Comma t g tt below_closed refl (λ spot. refl)
    (subst (λ (all : PatternTrees). Leads types n (patterns_spelling (one_pattern next ps) ++ word (pattern_closer listed) ∷ []) (in_mode wants_pattern (pattern_items listed (and_pattern done p) place ∷ fs)) (in_mode (has_pattern (whole_patterns listed all place)) fs))
    (patterns-assoc done (one_pattern p no_patterns) (one_pattern next ps))
    (patterns-leads types n listed ps (and_pattern done p) next place fs ts.0 ts.1 gs.0 gs.1)))

pattern_list-leads : (types : TypeReader) (n : ℕ) (listed : PatternsFor) (ps : PatternTrees) (place : Place) (fs : List Frame) → PatternsTaken types ps → ArePatterns ps → ((spot : Place) → step types (in_mode wants_pattern (pattern_items listed no_patterns place ∷ fs)) (plain (pattern_closer listed) spot) ≡ in_mode (has_pattern (whole_patterns listed no_patterns place)) fs) → Leads types n (patterns_spelling ps ++ word (pattern_closer listed) ∷ []) (in_mode wants_pattern (pattern_items listed no_patterns place ∷ fs)) (in_mode (has_pattern (whole_patterns listed ps place)) fs)
pattern_list-leads types n listed no_patterns place fs t g s = at_any (pattern_closer listed) s nothing_more
pattern_list-leads types n listed (one_pattern p ps) place fs t g s = patterns-leads types n listed ps no_patterns p place fs t.0 t.1 g.0 g.1

pub set_pattern-taken : (types : TypeReader) (ps : PatternTrees) (place : Place) → PatternsTaken types ps → PatternTaken types (set_pattern ps place)
set_pattern-taken types ps place t =
    single-taken types (set_pattern ps place) (λ g fs. at_token (plain word_is.OpenCurly place) refl (pattern_list-leads types closed set_like ps place fs t g (λ spot. refl)))

pub sequence_pattern-taken : (types : TypeReader) (ps : PatternTrees) (place : Place) → PatternsTaken types ps → PatternTaken types (sequence_pattern ps place)
sequence_pattern-taken types ps place t =
    single-taken types (sequence_pattern ps place) (λ g fs. at_token (plain word_is.OpenSquare place) refl (pattern_list-leads types closed sequence_like ps place fs t g (λ spot. refl)))

pub record_pattern-taken : (types : TypeReader) (type_name : TypeName) (ps : PatternTrees) (place : Place) → PatternsTaken types ps → PatternTaken types (record_pattern type_name ps place)
record_pattern-taken types type_name ps place t =
    single-taken types (record_pattern type_name ps place) (λ g fs. type_name-leads types closed make_named made_pattern type_name place fs _ _ _ (λ first. refl) g.0
    (pattern_list-leads types closed (record_like type_name) ps place fs t g.1 (λ spot. refl)))

tuple-leads : (types : TypeReader) (n : ℕ) (ps : PatternTrees) (place : Place) (fs : List Frame) → PatternsTaken types ps → AreTwoPatterns ps → ArePatterns ps → Leads types n (patterns_spelling ps ++ word word_is.CloseRound ∷ []) (in_mode wants_pattern (tuple_pattern_start place ∷ fs)) (in_mode (has_pattern (tuple_pattern ps place)) fs)
tuple-leads types n no_patterns place fs t h g = absurd h
tuple-leads types n (one_pattern p no_patterns) place fs t h g = absurd h
tuple-leads types n (one_pattern p (one_pattern next ps)) place fs t h g =
    regroup (pattern_spelling p) (further_patterns (one_pattern next ps)) (word word_is.CloseRound ∷ []) (pattern_part p word_is.Comma t.0 g.0 tt below_closed refl (λ spot. refl)
    (patterns-leads types n tuple_like ps (only_pattern p) next place fs t.1.0 t.1.1 g.1.0 g.1.1))

pub tuple_pattern-taken : (types : TypeReader) (ps : PatternTrees) (place : Place) → PatternsTaken types ps → PatternTaken types (tuple_pattern ps place)
tuple_pattern-taken types ps place t =
    single-taken types (tuple_pattern ps place) (λ g fs. at_token (plain word_is.MakeTuple place) refl (at_any word_is.OpenRound (λ spot. refl) (tuple-leads types closed ps place fs t g.0 g.1)))

-- ---- maps of patterns

maplets-leads : (types : TypeReader) (n : ℕ) (ms done : MapletPatterns) (k v : PatternTree) (place : Place) (fs : List Frame) → PatternTaken types v → MapletPatternsTaken types ms → IsPattern v → AreMapletPatterns ms → Leads types n ((pattern_spelling v ++ further_maplet_patterns ms) ++ word word_is.CloseCurly ∷ []) (in_mode wants_pattern (pattern_value done k place ∷ fs)) (in_mode (has_pattern (map_pattern (then_maplet_patterns done (one_maplet_pattern k v ms)) place)) fs)
maplets-leads types n no_maplet_patterns done k v place fs t ts b bs =
    regroup (pattern_spelling v) [] (word word_is.CloseCurly ∷ []) (pattern_part v word_is.CloseCurly t b tt below_closed refl (λ spot. refl) nothing_more)
maplets-leads types n (one_maplet_pattern key value ms) done k v place fs t ts b bs =
    regroup (pattern_spelling v) (further_maplet_patterns (one_maplet_pattern key value ms)) (word word_is.CloseCurly ∷ []) (pattern_part v word_is.Comma t b tt below_closed refl (λ spot. refl)
    (regroup (pattern_spelling key) (word word_is.MapsTo ∷ pattern_spelling value ++ further_maplet_patterns ms) (word word_is.CloseCurly ∷ [])
    (pattern_part key word_is.MapsTo ts.0 bs.0 tt below_closed refl (λ spot. refl)
    (subst (λ (all : MapletPatterns). Leads types n ((pattern_spelling value ++ further_maplet_patterns ms) ++ word word_is.CloseCurly ∷ []) (in_mode wants_pattern (pattern_value (and_maplet_pattern done k v) key place ∷ fs)) (in_mode (has_pattern (map_pattern all place)) fs))
    (maplet_patterns-assoc done (one_maplet_pattern k v no_maplet_patterns) (one_maplet_pattern key value ms))
    (maplets-leads types n ms (and_maplet_pattern done k v) key value place fs ts.1 ts.2 bs.1 bs.2)))))

map-leads : (types : TypeReader) (n : ℕ) (ms : MapletPatterns) (place : Place) (fs : List Frame) → MapletPatternsTaken types ms → AreSomeMapletPatterns ms → AreMapletPatterns ms → Leads types n (maplet_patterns_spelling ms ++ word word_is.CloseCurly ∷ []) (in_mode wants_pattern (pattern_items set_like no_patterns place ∷ fs)) (in_mode (has_pattern (map_pattern ms place)) fs)
map-leads types n no_maplet_patterns place fs t h b = absurd h
map-leads types n (one_maplet_pattern key value ms) place fs t h b =
    regroup (pattern_spelling key) (word word_is.MapsTo ∷ pattern_spelling value ++ further_maplet_patterns ms) (word word_is.CloseCurly ∷ [])
    (pattern_part key word_is.MapsTo t.0 b.0 tt below_closed refl (λ spot. refl)
    (maplets-leads types n ms no_maplet_patterns key value place fs t.1 t.2 b.1 b.2))

pub map_pattern-taken : (types : TypeReader) (pairs : MapletPatterns) (place : Place) → MapletPatternsTaken types pairs → PatternTaken types (map_pattern pairs place)
map_pattern-taken types pairs place t =
    single-taken types (map_pattern pairs place) (λ g fs. at_token (plain word_is.OpenCurly place) refl (map-leads types closed pairs place fs t g.0 g.1))
