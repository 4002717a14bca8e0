-- The words of patterns are read.
use Rattle.std.proofs.Common.{◌≡◌, true, false, List, [], ◌∷◌, ◌++◌, Option, Some, None, refl}
use Rattle.vdm_kinds.specs.declared.name.Name.{Name}
use Rattle.vdm_kinds.specs.declared.name_at.TypeName.{TypeName}
use Rattle.vdm_kinds.specs.declared.place.Place.{Place}
use Rattle.vdm_kinds.specs.declared.sign.Sign.TheVariants as sign_is
use Rattle.vdm_kinds.specs.declared.sign.Sign.TheVariants.{InSet, Equal, Concatenation}
use Rattle.abstract_syntax.specs.Literals.{LiteralTree, whole_literal, character_literal, text_literal, quote_literal, boolean_literal, nil_literal}
use Rattle.abstract_syntax.specs.Expressions.{ExprTree, PatternTrees, MapletPatterns, any_value, bound, literal_pattern, equal_to, set_pattern, sequence_pattern, map_pattern, empty_map_pattern, tuple_pattern, record_pattern, concatenation_pattern, no_patterns, one_pattern, no_maplet_patterns, one_maplet_pattern}
use Rattle.grammar_words.specs.declared.word.Word.TheVariants as word_is
use Rattle.grammar_words.specs.Pulls.{far_pull}
use Rattle.grammar_words.specs.Tokens.{identifier, make_named}
use Rattle.grammar_words.specs.Written.{Written, at, word, at_word}
use Rattle.type_reading.specs.TypeSpelling.{literal_token, class_and_name, type_name_spelling}
use Rattle.grammar_trees.specs.Spelling.{spelling, pattern_spelling, patterns_spelling, further_patterns, further_joined, maplet_patterns_spelling}
use Rattle.grammar_trees.specs.Binding.{ArePatterns, AreMapletPatterns, AreTwoPatterns, AreSomeMapletPatterns}
use Rattle.grammar_fronts.specs.declared.wanted.Wanted.{Wanted}
use Rattle.grammar_fronts.specs.declared.wanted.Wanted.TheVariants as want
use Rattle.grammar_fronts.specs.Turns.{begins}
use Rattle.grammar_fronts.specs.Patterns.{pattern}
use Rattle.front_laws.proofs.Passing.{written_word, Reads, tok, follow, regroup}
use Rattle.front_laws.proofs.Starts.{Starts, opens, at_in_curly_pattern, at_in_square_pattern, at_pattern_parts}
use Rattle.front_laws.proofs.Claims.{ExprRead, within, PatternRead, pattern_within, PatternsRead, MapletPatternsRead}
use Rattle.front_laws.proofs.Parts.{more_patterns, more_joined, more_pattern_pairs}

literal_begins : (value : LiteralTree) (place : Place) → pattern (written_word (at (literal_token value place))) ≡ Some (begins 0 [] (want.BehindPattern ∷ []))
literal_begins (whole_literal n) place = refl
literal_begins (character_literal c) place = refl
literal_begins (text_literal characters) place = refl
literal_begins (quote_literal name) place = refl
literal_begins (boolean_literal true) place = refl
literal_begins (boolean_literal false) place = refl
literal_begins nil_literal place = refl

pub any_value-read : (place : Place) → PatternRead (any_value place)
any_value-read place = record { reads = λ b next more s behind a r. opens s (at_word (word_is.Operator sign_is.Minus) place) refl r }

pub bound-read : (name : Name) (place : Place) → PatternRead (bound name place)
bound-read name place = record { reads = λ b next more s behind a r. opens s (at (identifier name place)) refl r }

pub literal_pattern-read : (value : LiteralTree) (place : Place) → PatternRead (literal_pattern value place)
literal_pattern-read value place = record { reads = λ b next more s behind a r. opens s (at (literal_token value place)) (literal_begins value place) r }

pub equal_to-read : (inner : ExprTree) (place : Place) → ExprRead inner → PatternRead (equal_to inner place)
equal_to-read inner place t = record { reads = λ b next more s behind a r. opens s (at_word word_is.OpenRound place) refl (regroup (spelling inner) _ a (within t far_pull b (follow (word word_is.CloseRound) refl refl refl (r)))) }

pub empty_map_pattern-read : (place : Place) → PatternRead (empty_map_pattern place)
empty_map_pattern-read place = record { reads = λ b next more s behind a r. opens s (at_word word_is.OpenCurly place) refl (tok (word word_is.MapsTo) refl (tok (word word_is.CloseCurly) refl (r))) }

regrouped : (x y k a : List Written) {wanted : List Wanted} → Reads (x ++ (y ++ (k ++ a))) wanted → Reads (((x ++ y) ++ k) ++ a) wanted
regrouped x y k a r = regroup (x ++ y) k a (regroup x y (k ++ a) r)

set_in : (ps : PatternTrees) → PatternsRead ps → ArePatterns ps → (behind : List Wanted) (a : List Written) → Reads a behind
    → Reads ((patterns_spelling ps ++ (word word_is.CloseCurly ∷ [])) ++ a) (want.InCurlyPattern ∷ behind)
set_in no_patterns t b behind a r = tok (word word_is.CloseCurly) refl (r)
set_in (one_pattern p no_patterns) t b behind a r =
    regrouped (pattern_spelling p) [] (word word_is.CloseCurly ∷ []) a
    (t.0.reads b.0 want.InCurlyPattern (want.BehindFirstInPattern ∷ []) at_in_curly_pattern behind _ (tok (word word_is.CloseCurly) refl (r)))
set_in (one_pattern p (one_pattern p2 ps)) t b behind a r =
    regrouped (pattern_spelling p) (further_patterns (one_pattern p2 ps)) (word word_is.CloseCurly ∷ []) a
    (t.0.reads b.0 want.InCurlyPattern (want.BehindFirstInPattern ∷ []) at_in_curly_pattern behind _ (tok (word word_is.Comma) refl (regroup (pattern_spelling p2) _ (word word_is.CloseCurly ∷ a) (pattern_within t.1.0 b.1.0 (more_patterns ps t.1.1 b.1.1 (want.CloseCurly ∷ behind) (word word_is.CloseCurly ∷ a) (tok (word word_is.CloseCurly) refl (r)))))))

pub set_pattern-read : (ps : PatternTrees) (place : Place) → PatternsRead ps → PatternRead (set_pattern ps place)
set_pattern-read ps place t = record { reads = λ b next more s behind a r. opens s (at_word word_is.OpenCurly place) refl (set_in ps t b (want.BehindPattern ∷ (more ++ behind)) a r) }

sequence_in : (ps : PatternTrees) → PatternsRead ps → ArePatterns ps → (behind : List Wanted) (a : List Written) → Reads a behind
    → Reads ((patterns_spelling ps ++ (word word_is.CloseSquare ∷ [])) ++ a) (want.InSquarePattern ∷ behind)
sequence_in no_patterns t b behind a r = tok (word word_is.CloseSquare) refl (r)
sequence_in (one_pattern p ps) t b behind a r =
    regrouped (pattern_spelling p) (further_patterns ps) (word word_is.CloseSquare ∷ []) a
    (t.0.reads b.0 want.InSquarePattern (want.MorePatterns ∷ want.CloseSquare ∷ []) at_in_square_pattern behind _
    (more_patterns ps t.1 b.1 (want.CloseSquare ∷ behind) (word word_is.CloseSquare ∷ a) (tok (word word_is.CloseSquare) refl (r))))

pub sequence_pattern-read : (ps : PatternTrees) (place : Place) → PatternsRead ps → PatternRead (sequence_pattern ps place)
sequence_pattern-read ps place t = record { reads = λ b next more s behind a r. opens s (at_word word_is.OpenSquare place) refl (sequence_in ps t b (want.BehindPattern ∷ (more ++ behind)) a r) }

parts_in : (ps : PatternTrees) → PatternsRead ps → ArePatterns ps → (behind : List Wanted) (a : List Written) → Reads a behind
    → Reads ((patterns_spelling ps ++ (word word_is.CloseRound ∷ [])) ++ a) (want.PatternParts ∷ behind)
parts_in no_patterns t b behind a r = tok (word word_is.CloseRound) refl (r)
parts_in (one_pattern p ps) t b behind a r =
    regrouped (pattern_spelling p) (further_patterns ps) (word word_is.CloseRound ∷ []) a
    (t.0.reads b.0 want.PatternParts (want.MorePatterns ∷ want.CloseRound ∷ []) at_pattern_parts behind _
    (more_patterns ps t.1 b.1 (want.CloseRound ∷ behind) (word word_is.CloseRound ∷ a) (tok (word word_is.CloseRound) refl (r))))

of_class : (class : Option Name) (name : Name) (name_place place : Place) (next : Wanted) (more : List Wanted) → Starts pattern next more
    → (behind : List Wanted) (a : List Written) → Reads a (want.PatternParts ∷ want.BehindPattern ∷ (more ++ behind))
    → Reads (class_and_name make_named class name name_place place ++ (word word_is.OpenRound ∷ a)) (next ∷ behind)
of_class None name name_place place next more s behind a r = opens s (at (make_named name place)) refl (tok (word word_is.OpenRound) refl (r))
of_class (Some class) name name_place place next more s behind a r =
    opens s (at (make_named class place)) refl (tok (word word_is.Backquote) refl (tok (at (identifier name name_place)) refl (tok (word word_is.OpenRound) refl (r))))

pub record_pattern-read : (type_name : TypeName) (ps : PatternTrees) (place : Place) → PatternsRead ps → PatternRead (record_pattern type_name ps place)
record_pattern-read type_name ps place t = record {
  reads = λ b next more s behind a r.
      regroup (type_name_spelling make_named type_name place) _ a
      (of_class type_name.class type_name.name type_name.name_place place next more s behind _ (parts_in ps t b.1 (want.BehindPattern ∷ (more ++ behind)) a r));
}

tuple_in : (ps : PatternTrees) → PatternsRead ps → ArePatterns ps → AreTwoPatterns ps → (behind : List Wanted) (a : List Written) → Reads a behind
    → Reads ((patterns_spelling ps ++ (word word_is.CloseRound ∷ [])) ++ a)
    (want.Pattern ∷ want.Comma ∷ want.Pattern ∷ want.MorePatterns ∷ want.CloseRound ∷ behind)
tuple_in no_patterns t b two behind a r = absurd two
tuple_in (one_pattern p no_patterns) t b two behind a r = absurd two
tuple_in (one_pattern p (one_pattern p2 ps)) t b two behind a r =
    regrouped (pattern_spelling p) (further_patterns (one_pattern p2 ps)) (word word_is.CloseRound ∷ []) a
    (pattern_within t.0 b.0 (tok (word word_is.Comma) refl (regroup (pattern_spelling p2) _ (word word_is.CloseRound ∷ a) (pattern_within t.1.0 b.1.0 (more_patterns ps t.1.1 b.1.1 (want.CloseRound ∷ behind) (word word_is.CloseRound ∷ a) (tok (word word_is.CloseRound) refl (r)))))))

pub tuple_pattern-read : (ps : PatternTrees) (place : Place) → PatternsRead ps → PatternRead (tuple_pattern ps place)
tuple_pattern-read ps place t = record { reads = λ b next more s behind a r. opens s (at_word word_is.MakeTuple place) refl (tok (word word_is.OpenRound) refl (tuple_in ps t b.1 b.0 (want.BehindPattern ∷ (more ++ behind)) a r)) }

map_in : (ms : MapletPatterns) → MapletPatternsRead ms → AreMapletPatterns ms → AreSomeMapletPatterns ms → (behind : List Wanted)
    (a : List Written) → Reads a behind → Reads ((maplet_patterns_spelling ms ++ (word word_is.CloseCurly ∷ [])) ++ a) (want.InCurlyPattern ∷ behind)
map_in no_maplet_patterns t b some behind a r = absurd some
map_in (one_maplet_pattern k v ms) t b some behind a r =
    regroup (maplet_patterns_spelling (one_maplet_pattern k v ms)) (word word_is.CloseCurly ∷ []) a (regroup (pattern_spelling k) _ (word word_is.CloseCurly ∷ a)
    (t.0.reads b.0 want.InCurlyPattern (want.BehindFirstInPattern ∷ []) at_in_curly_pattern behind _ (tok (word word_is.MapsTo) refl (regroup (pattern_spelling v) _ (word word_is.CloseCurly ∷ a) (pattern_within t.1 b.1 (more_pattern_pairs ms t.2 b.2 (want.CloseCurly ∷ behind) (word word_is.CloseCurly ∷ a) (tok (word word_is.CloseCurly) refl (r))))))))

pub map_pattern-read : (ms : MapletPatterns) (place : Place) → MapletPatternsRead ms → PatternRead (map_pattern ms place)
map_pattern-read ms place t = record { reads = λ b next more s behind a r. opens s (at_word word_is.OpenCurly place) refl (map_in ms t b.1 b.0 (want.BehindPattern ∷ (more ++ behind)) a r) }

pub concatenation_pattern-read : (ps : PatternTrees) (place : Place) → PatternsRead ps → PatternRead (concatenation_pattern ps place)
concatenation_pattern-read no_patterns place t = record { reads = λ b next more s behind a r. absurd b.0 }
concatenation_pattern-read (one_pattern p ps) place t = record {
  reads = λ b next more s behind a r.
      regroup (pattern_spelling p) (further_joined ps) a (t.0.reads b.2.1 next more s behind _ (more_joined ps t.1 b.2.2 (more ++ behind) a r));
}
