-- What frames make of a pattern that a word ends.
use Rattle.std.proofs.Common.{◌≡◌, Bool, true, false, List, [], ◌∷◌, ◌++◌, None, refl, ap, sym, subst, ◌∙◌, append_assoc, append-nil}
use Rattle.abstract_syntax.specs.Expressions.{ExprTree, DefinedTrees, CaseTrees, BindTrees, PatternTree, PatternTrees, MapletPatterns, no_defined, no_binds, map_pattern, concatenation_pattern, no_patterns, one_pattern, no_maplet_patterns, one_maplet_pattern, pattern_place}
use Rattle.grammar_trees.specs.Spelling.{pattern_spelling, patterns_spelling}
use Rattle.grammar_trees.specs.Binding.{AreTwoPatterns, AreSomePatterns, AreSomeMapletPatterns, IsSinglePattern, PatternsBeginAt, AreDefinitions, IsPattern, ArePatterns}
use Rattle.grammar_trees.specs.Lists.{and_pattern, and_maplet_pattern, only_pattern}
use Rattle.grammar_trees.specs.Frames.{BindsFor, PatternsFor, Frame, State, set_each, map_each, all_of, some_of, one_of, the_one, such_one, set_like, sequence_like, tuple_like, record_like, bind_set, sequence_set, let_value, def_value, case_value, bind_patterns, sequence_bound, let_start, let_next, def_pattern, case_patterns, pattern_items, tuple_pattern_start, pattern_key, pattern_value, concatenated, let_type, has_pattern, a_pattern}
use Rattle.grammar_trees.specs.Machine.{in_mode, stop_of, whole_patterns, closes_patterns, behind_first_pattern, behind_pattern, behind_pattern_value, further_bound, behind_bound, behind_defined, behind_let, behind_case_pattern, taken_pattern, pattern_taken_by, joins_sign, joins, follow_single, follow_joined, follow_pattern, end_pattern, Stop, comma, close_curly, maps_to, colon, arrow, in_set_stop, equal_stop}
use Rattle.grammar_trees.specs.Trees.{IsPatternOf}
use Rattle.grammar_words.specs.Tokens.{Token, plain}
use Rattle.grammar_words.specs.Written.{Written, word, IsToken, AreTokens, at_word}
use Rattle.vdm_kinds.specs.declared.place.Place.{Place}
use Rattle.vdm_kinds.specs.declared.sign.Sign.{Sign}
use Rattle.grammar_words.specs.declared.word.Word.{Word}
use Rattle.grammar_words.specs.declared.word.Word.TheVariants as word_is
use Rattle.vdm_kinds.specs.declared.sign.Sign.TheVariants as sign_is
use Rattle.grammar_trees.proofs.SoundFrames.{took_pattern_opening, took, stack_took, context, IsFirst, IsOnly, PatternsForFits, Fits, StackFits, Sound}
use Rattle.grammar_trees.proofs.SoundBasics.{to_refused, to_wants, to_wants_pattern, to_typing, to_has_pattern, stop-token, at_comma-becomes, at_round-becomes, at_square-becomes, at_curly-becomes, at_maps_to-becomes, at_in_set-becomes, at_equal-becomes, StopToken, Becomes}
use Rattle.grammar_trees.proofs.SoundLists.{patterns-took, patterns-spelled, patterns-are, joined-took, joined-spelled, joined-are, maplet_patterns-took, maplet_patterns-spelled, maplet_patterns-are, took_defined, took_joined}
use Rattle.grammar_trees.proofs.PatternKinds.{pattern_closer}

-- ---- lists of patterns

whole-spelled : (listed : PatternsFor) (ps : PatternTrees) (place : Place) → pattern_spelling (whole_patterns listed ps place) ≡ took_pattern_opening listed place ++ (patterns_spelling ps ++ word (pattern_closer listed) ∷ [])
whole-spelled set_like ps place = refl
whole-spelled sequence_like ps place = refl
whole-spelled tuple_like ps place = refl
whole-spelled (record_like type_name) ps place = simp append_assoc refl

are-two : (ps : PatternTrees) (p : PatternTree) → AreSomePatterns ps → AreTwoPatterns (and_pattern ps p)
are-two no_patterns p h = absurd h
are-two (one_pattern q no_patterns) p h = tt
are-two (one_pattern q (one_pattern r ps)) p h = tt

are-some : (ps : PatternTrees) (p : PatternTree) → AreSomePatterns (and_pattern ps p)
are-some no_patterns p = tt
are-some (one_pattern q ps) p = tt

whole-grammatical : (listed : PatternsFor) (ps : PatternTrees) (p : PatternTree) (place : Place) → PatternsForFits listed ps place → ArePatterns ps → IsPattern p → IsPattern (whole_patterns listed (and_pattern ps p) place)
whole-grammatical set_like ps p place h a b = patterns-are ps p a b
whole-grammatical sequence_like ps p place h a b = patterns-are ps p a b
whole-grammatical tuple_like ps p place h a b = (are-two ps p h, patterns-are ps p a b)
whole-grammatical (record_like type_name) ps p place h a b = (h, patterns-are ps p a b)

whole-single : (listed : PatternsFor) (ps : PatternTrees) (place : Place) → IsSinglePattern (whole_patterns listed ps place)
whole-single set_like ps place = tt
whole-single sequence_like ps place = tt
whole-single tuple_like ps place = tt
whole-single (record_like type_name) ps place = tt

closes_patterns-becomes : (listed : PatternsFor) (stop : Stop) (fs : List Frame) (ws : List Written) (t : Token) (s : State) → StopToken stop t → (IsToken t (word (pattern_closer listed)) → Becomes fs ws t s) → Becomes fs ws t (closes_patterns listed stop s)
closes_patterns-becomes set_like stop fs ws t s k r = at_curly-becomes stop fs ws t s k r
closes_patterns-becomes sequence_like stop fs ws t s k r = at_square-becomes stop fs ws t s k r
closes_patterns-becomes tuple_like stop fs ws t s k r = at_round-becomes stop fs ws t s k r
closes_patterns-becomes (record_like type_name) stop fs ws t s k r = at_round-becomes stop fs ws t s k r

list-closes : (listed : PatternsFor) (ps : PatternTrees) (p : PatternTree) (place : Place) (stop : Stop) (fs : List Frame) (t : Token) → StopToken stop t → Fits (pattern_items listed ps place) (context fs) → IsPattern p → Becomes fs (took (pattern_items listed ps place) ++ pattern_spelling p) t (closes_patterns listed stop (in_mode (has_pattern (whole_patterns listed (and_pattern ps p) place)) fs))
list-closes listed ps p place stop fs t k h b =
    closes_patterns-becomes listed stop fs (took (pattern_items listed ps place) ++ pattern_spelling p) t (in_mode (has_pattern (whole_patterns listed (and_pattern ps p) place)) fs) k (λ q.
    to_has_pattern (whole_patterns listed (and_pattern ps p) place) (word (pattern_closer listed)) q (whole-single listed (and_pattern ps p) place) (whole-grammatical listed ps p place h.1 h.0 b)
    (whole-spelled listed (and_pattern ps p) place ∙ simp (patterns-spelled ps p, append_assoc) refl))

behind_first-becomes : (listed : PatternsFor) (ps : PatternTrees) (p : PatternTree) (place : Place) (stop : Stop) (fs : List Frame) (t : Token) → StopToken stop t → Fits (pattern_items listed ps place) (context fs) → IsPattern p → Becomes fs (took (pattern_items listed ps place) ++ pattern_spelling p) t (behind_first_pattern listed ps p place stop fs)
behind_first-becomes set_like no_patterns p place maps_to fs t k h b = to_wants_pattern (pattern_value no_maplet_patterns p place) (word word_is.MapsTo) k (tt, b) refl
behind_first-becomes listed ps p place stop fs t k h b = list-closes listed ps p place stop fs t k h b

listed-more : (listed : PatternsFor) (ps : PatternTrees) (p : PatternTree) (place : Place) → PatternsForFits listed ps place → PatternsForFits listed (and_pattern ps p) place
listed-more set_like ps p place h = h
listed-more sequence_like ps p place h = h
listed-more tuple_like ps p place h = are-some ps p
listed-more (record_like type_name) ps p place h = h

behind_pattern-becomes : (listed : PatternsFor) (ps : PatternTrees) (p : PatternTree) (place : Place) (stop : Stop) (fs : List Frame) (t : Token) → StopToken stop t → Fits (pattern_items listed ps place) (context fs) → IsPattern p → Becomes fs (took (pattern_items listed ps place) ++ pattern_spelling p) t (behind_pattern listed ps p place stop fs)
behind_pattern-becomes listed ps p place comma fs t k h b =
    to_wants_pattern (pattern_items listed (and_pattern ps p) place) (word word_is.Comma) k (patterns-are ps p h.0 b, listed-more listed ps p place h.1) (simp (patterns-took ps p, append_assoc) refl)
behind_pattern-becomes listed ps p place stop fs t k h b = behind_first-becomes listed ps p place stop fs t k h b

are-some-maplets : (ms : MapletPatterns) (k v : PatternTree) → AreSomeMapletPatterns (and_maplet_pattern ms k v)
are-some-maplets no_maplet_patterns k v = tt
are-some-maplets (one_maplet_pattern k' v' ms) k v = tt

behind_pattern_value-becomes : (ms : MapletPatterns) (key p : PatternTree) (place : Place) (stop : Stop) (fs : List Frame) (t : Token) → StopToken stop t → Fits (pattern_value ms key place) (context fs) → IsPattern p → Becomes fs (took (pattern_value ms key place) ++ pattern_spelling p) t (behind_pattern_value (and_maplet_pattern ms key p) place stop fs)
behind_pattern_value-becomes ms key p place comma fs t k h b =
    to_wants_pattern (pattern_key (and_maplet_pattern ms key p) place) (word word_is.Comma) k (maplet_patterns-are ms key p h.0 (h.1, b)) (simp (maplet_patterns-took ms key p, append_assoc) refl)
behind_pattern_value-becomes ms key p place close_curly fs t k h b =
    to_has_pattern (map_pattern (and_maplet_pattern ms key p) place) (word word_is.CloseCurly) k tt (are-some-maplets ms key p, maplet_patterns-are ms key p h.0 (h.1, b)) (simp (maplet_patterns-spelled ms key p, append_assoc) refl)
behind_pattern_value-becomes ms key p place _ fs t k h b = to_refused

-- ---- patterns of binds, definitions and cases

further_bound-becomes : (for : BindsFor) (bs : BindTrees) (ps : PatternTrees) (p : PatternTree) (place : Place) (fs : List Frame) (t : Token) → IsToken t (word word_is.Comma) → Fits (bind_patterns for bs ps place) (context fs) → IsPattern p → Becomes fs (took (bind_patterns for bs ps place) ++ pattern_spelling p) t (further_bound for bs (and_pattern ps p) place fs)
further_bound-becomes the_one bs ps p place fs t k h b = to_refused
further_bound-becomes (set_each e) bs ps p place fs t k h b = to_wants_pattern (bind_patterns (set_each e) bs (and_pattern ps p) place) (word word_is.Comma) k (h.0, h.1, h.2, patterns-are ps p h.3 b, tt) (simp (patterns-took ps p, append_assoc) refl)
further_bound-becomes (map_each e v) bs ps p place fs t k h b = to_wants_pattern (bind_patterns (map_each e v) bs (and_pattern ps p) place) (word word_is.Comma) k (h.0, h.1, h.2, patterns-are ps p h.3 b, tt) (simp (patterns-took ps p, append_assoc) refl)
further_bound-becomes all_of bs ps p place fs t k h b = to_wants_pattern (bind_patterns all_of bs (and_pattern ps p) place) (word word_is.Comma) k (h.0, h.1, h.2, patterns-are ps p h.3 b, tt) (simp (patterns-took ps p, append_assoc) refl)
further_bound-becomes some_of bs ps p place fs t k h b = to_wants_pattern (bind_patterns some_of bs (and_pattern ps p) place) (word word_is.Comma) k (h.0, h.1, h.2, patterns-are ps p h.3 b, tt) (simp (patterns-took ps p, append_assoc) refl)
further_bound-becomes one_of bs ps p place fs t k h b = to_wants_pattern (bind_patterns one_of bs (and_pattern ps p) place) (word word_is.Comma) k (h.0, h.1, h.2, patterns-are ps p h.3 b, tt) (simp (patterns-took ps p, append_assoc) refl)
further_bound-becomes such_one bs ps p place fs t k h b = to_wants_pattern (bind_patterns such_one bs (and_pattern ps p) place) (word word_is.Comma) k (h.0, h.1, h.2, patterns-are ps p h.3 b, tt) (simp (patterns-took ps p, append_assoc) refl)

is-only : (for : BindsFor) (ps : PatternTrees) (p : PatternTree) → IsFirst for ps → IsOnly for (and_pattern ps p)
is-only the_one ps p h = rw h tt
is-only _ ps p h = tt

behind_bound-becomes : (for : BindsFor) (bs : BindTrees) (ps : PatternTrees) (p : PatternTree) (place : Place) (stop : Stop) (fs : List Frame) (t : Token) → StopToken stop t → Fits (bind_patterns for bs ps place) (context fs) → IsPattern p → Becomes fs (took (bind_patterns for bs ps place) ++ pattern_spelling p) t (behind_bound for bs (and_pattern ps p) place stop fs)
behind_bound-becomes for bs ps p place comma fs t k h b = further_bound-becomes for bs ps p place fs t k h b
behind_bound-becomes for bs ps p place in_set_stop fs t k h b =
    to_wants (bind_set for bs (and_pattern ps p) place) (word (word_is.Operator sign_is.InSet)) k (h.0, h.1, h.2, are-some ps p, patterns-are ps p h.3 b, is-only for ps p h.4) (simp (patterns-spelled ps p, append_assoc) refl)
behind_bound-becomes for bs ps p place _ fs t k h b = to_refused

behind_defined-becomes : (ds : DefinedTrees) (p : PatternTree) (place : Place) (stop : Stop) (fs : List Frame) (t : Token) (ws : List Written) → StopToken stop t → AreDefinitions ds → IsPattern p → ws ≡ at_word word_is.Let place ∷ (took_defined ds ++ pattern_spelling p) → Becomes fs ws t (behind_defined ds p place stop fs)
behind_defined-becomes ds p place colon fs t ws k h b e = to_typing (let_type ds p place) (word word_is.Colon) k (h, b) (rw e (simp append_assoc refl))
behind_defined-becomes ds p place equal_stop fs t ws k h b e = to_wants (let_value ds p None place) (word (word_is.Operator sign_is.Equal)) k (h, b, tt) (rw e (simp append_assoc refl))
behind_defined-becomes ds p place _ fs t ws k h b e = to_refused

behind_let-becomes : (p : PatternTree) (place : Place) (stop : Stop) (fs : List Frame) (t : Token) → StopToken stop t → IsPattern p → Becomes fs (took (let_start place) ++ pattern_spelling p) t (behind_let p place stop fs)
behind_let-becomes p place comma fs t k b = to_wants_pattern (bind_patterns such_one no_binds (only_pattern p) place) (word word_is.Comma) k (tt, refl, tt, (b, tt), tt) refl
behind_let-becomes p place in_set_stop fs t k b =
    to_wants (bind_set such_one no_binds (only_pattern p) place) (word (word_is.Operator sign_is.InSet)) k (tt, refl, tt, tt, (b, tt), tt) (simp append_assoc refl)
behind_let-becomes p place stop fs t k b = behind_defined-becomes no_defined p place stop fs t _ k tt b refl

behind_case_pattern-becomes : (e : ExprTree) (cs : CaseTrees) (ps : PatternTrees) (p : PatternTree) (place : Place) (stop : Stop) (fs : List Frame) (t : Token) → StopToken stop t → Fits (case_patterns e cs ps place) (context fs) → IsPattern p → Becomes fs (took (case_patterns e cs ps place) ++ pattern_spelling p) t (behind_case_pattern e cs (and_pattern ps p) place stop fs)
behind_case_pattern-becomes e cs ps p place comma fs t k h b =
    to_wants_pattern (case_patterns e cs (and_pattern ps p) place) (word word_is.Comma) k (h.0, h.1, patterns-are ps p h.2 b) (simp (patterns-took ps p, append_assoc) refl)
behind_case_pattern-becomes e cs ps p place arrow fs t k h b =
    to_wants (case_value e cs (and_pattern ps p) place) (word word_is.Arrow) k (h.0, h.1, are-some ps p, patterns-are ps p h.2 b) (simp (patterns-spelled ps p, append_assoc) refl)
behind_case_pattern-becomes e cs ps p place _ fs t k h b = to_refused

pub pattern-becomes : (f : Frame) (p : PatternTree) (stop : Stop) (fs : List Frame) (t : Token) → StopToken stop t → Fits f (context fs) → IsPattern p → Becomes fs (took f ++ pattern_spelling p) t (taken_pattern f p stop fs)
pattern-becomes (bind_patterns for bs ps place) p stop fs t k h b = behind_bound-becomes for bs ps p place stop fs t k h b
pattern-becomes (sequence_bound item place) p stop fs t k h b =
    at_in_set-becomes stop fs _ t _ k (λ q. to_wants (sequence_set item p place) (word (word_is.Operator sign_is.InSet)) q (h, b) (simp append_assoc refl))
pattern-becomes (let_start place) p stop fs t k h b = behind_let-becomes p place stop fs t k b
pattern-becomes (let_next ds place) p stop fs t k h b = behind_defined-becomes ds p place stop fs t _ k h b refl
pattern-becomes (def_pattern place) p stop fs t k h b = at_equal-becomes stop fs _ t _ k (λ q. to_wants (def_value p place) (word (word_is.Operator sign_is.Equal)) q b refl)
pattern-becomes (case_patterns e cs ps place) p stop fs t k h b = behind_case_pattern-becomes e cs ps p place stop fs t k h b
pattern-becomes (pattern_items listed ps place) p stop fs t k h b = behind_pattern-becomes listed ps p place stop fs t k h b
pattern-becomes (tuple_pattern_start place) p stop fs t k h b =
    at_comma-becomes stop fs _ t _ k (λ q. to_wants_pattern (pattern_items tuple_like (only_pattern p) place) (word word_is.Comma) q ((b, tt), tt) refl)
pattern-becomes (pattern_key ms place) p stop fs t k h b = at_maps_to-becomes stop fs _ t _ k (λ q. to_wants_pattern (pattern_value ms p place) (word word_is.MapsTo) q (h, b) (simp append_assoc refl))
pattern-becomes (pattern_value ms key place) p stop fs t k h b = behind_pattern_value-becomes ms key p place stop fs t k h b
pattern-becomes _ p stop fs t k h b = to_refused

-- ---- behind a pattern

by-frames : (fs : List Frame) (p : PatternTree) (stop : Stop) (t : Token) (tokens : List Token) → StopToken stop t → StackFits fs → IsPattern p → AreTokens tokens (stack_took fs ++ pattern_spelling p) → Sound (pattern_taken_by fs p stop) (tokens ++ t ∷ [])
by-frames [] p stop t tokens k g b h = record { sound = tt }
by-frames (f ∷ fs) p stop t tokens k g b h =
    (pattern-becomes f p stop fs t k g.0 b).becomes g.1 tokens (subst (λ (ws : List Written). AreTokens tokens ws) (append_assoc (stack_took fs) (took f) (pattern_spelling p)) h)

caret : (w : Word) (place : Place) → joins w ≡ true → IsToken (plain w place) (word (word_is.Operator sign_is.Concatenation))
caret (word_is.Operator sign) place h = sign-caret sign h
  where
    sign-caret : (s : Sign) → joins_sign s ≡ true → IsToken (plain (word_is.Operator s) place) (word (word_is.Operator sign_is.Concatenation))
    sign-caret sign_is.Concatenation q = (place, refl)
    sign-caret _ q = absurd (cc)
caret _ place h = absurd (cc)

follow_single-sound : (b : Bool) (w : Word) (place : Place) (p : PatternTree) (fs : List Frame) (tokens : List Token) → joins w ≡ b → StackFits fs → IsSinglePattern p → IsPattern p → AreTokens tokens (stack_took fs ++ pattern_spelling p) → Sound (follow_single b w p fs) (tokens ++ plain w place ∷ [])
follow_single-sound true w place p fs tokens e g s b h =
    (to_wants_pattern (concatenated (only_pattern p) (pattern_place p)) (word (word_is.Operator sign_is.Concatenation)) (caret w place e) (tt, refl, (s, b, tt)) refl).becomes g tokens h
follow_single-sound false w place p fs tokens e g s b h = by-frames fs p (stop_of w) (plain w place) tokens (stop-token w place) g b h

begin-at : (ps : PatternTrees) (p : PatternTree) (place : Place) → AreSomePatterns ps → PatternsBeginAt ps place → PatternsBeginAt (and_pattern ps p) place
begin-at no_patterns p place h b = absurd h
begin-at (one_pattern q ps) p place h b = b

follow_joined-sound : (b : Bool) (w : Word) (place at_first : Place) (ps : PatternTrees) (p : PatternTree) (fs : List Frame) (tokens : List Token) → joins w ≡ b → StackFits (concatenated ps at_first ∷ fs) → IsSinglePattern p → IsPattern p → AreTokens tokens (stack_took (concatenated ps at_first ∷ fs) ++ pattern_spelling p) → Sound (follow_joined b w (and_pattern ps p) at_first fs) (tokens ++ plain w place ∷ [])
follow_joined-sound true w place at_first ps p fs tokens e g s b h =
    (to_wants_pattern (concatenated (and_pattern ps p) at_first) (word (word_is.Operator sign_is.Concatenation)) (caret w place e)
    (are-some ps p, begin-at ps p at_first g.0.0 g.0.1, joined-are ps p g.0.2 (s, b)) (simp (joined-took ps p, append_assoc) refl)).becomes g.1 tokens
    (subst (λ (ws : List Written). AreTokens tokens ws) (append_assoc (stack_took fs) (took_joined ps) (pattern_spelling p)) h)
follow_joined-sound false w place at_first ps p fs tokens e g s b h =
    by-frames fs (concatenation_pattern (and_pattern ps p) at_first) (stop_of w) (plain w place) tokens (stop-token w place) g.1
    (are-two ps p g.0.0, begin-at ps p at_first g.0.0 g.0.1, joined-are ps p g.0.2 (s, b))
    (subst (λ (ws : List Written). AreTokens tokens ws) (append_assoc (stack_took fs) (took_joined ps) (pattern_spelling p) ∙ ap (λ (ws : List Written). stack_took fs ++ ws) (sym (joined-spelled ps p ∙ ap (λ (ws : List Written). took_joined ps ++ ws) (append-nil (pattern_spelling p))))) h)

pub follow_pattern-sound : (t : Token) (p : PatternTree) (fs : List Frame) (tokens : List Token) → StackFits fs → IsSinglePattern p → IsPattern p → AreTokens tokens (stack_took fs ++ pattern_spelling p) → Sound (follow_pattern t p fs) (tokens ++ t ∷ [])
follow_pattern-sound (plain w place) p [] tokens g s b h = follow_single-sound (joins w) w place p [] tokens refl g s b h
follow_pattern-sound (plain w place) p (concatenated ps at_first ∷ fs) tokens g s b h = follow_joined-sound (joins w) w place at_first ps p fs tokens refl g s b h
follow_pattern-sound (plain w place) p (f ∷ fs) tokens g s b h = follow_single-sound (joins w) w place p (f ∷ fs) tokens refl g s b h
follow_pattern-sound _ p fs tokens g s b h = record { sound = tt }

-- at the end
pub end_pattern-sound : (p : PatternTree) (fs : List Frame) (tokens : List Token) (tree : PatternTree) → StackFits fs → IsSinglePattern p → IsPattern p → AreTokens tokens (stack_took fs ++ pattern_spelling p) → end_pattern p fs ≡ a_pattern tree → IsPatternOf tokens tree
end_pattern-sound p [] tokens tree g s b h e = subst (λ (q : PatternTree). IsPatternOf tokens q) (same p tree e) (record { spelled = h; grammatical = b })
  where
    same : (a c : PatternTree) → a_pattern a ≡ a_pattern c → a ≡ c
    same a c q = cc
end_pattern-sound p (concatenated ps at_first ∷ []) tokens tree g s b h e = subst (λ (q : PatternTree). IsPatternOf tokens q) (same (concatenation_pattern (and_pattern ps p) at_first) tree e) (record {
  spelled = subst (λ (ws : List Written). AreTokens tokens ws) (sym (joined-spelled ps p ∙ ap (λ (ws : List Written). took_joined ps ++ ws) (append-nil (pattern_spelling p)))) h;
  grammatical = (are-two ps p g.0.0, begin-at ps p at_first g.0.0 g.0.1, joined-are ps p g.0.2 (s, b));
})
  where
    same : (a c : PatternTree) → a_pattern a ≡ a_pattern c → a ≡ c
    same a c q = cc
end_pattern-sound p _ tokens tree g s b h e = absurd (cc)
