-- What a token makes where an expression or a pattern is wanted.
use Rattle.std.proofs.Common.{◌≡◌, ◌≤◌, true, false, List, [], ◌∷◌, ◌++◌, refl, sym, subst, append_assoc, append-nil}
use Rattle.abstract_syntax.specs.Expressions.{ExprTree, ExprTrees, CaseTrees, PatternTrees, literal, named, self_object, current_time, undefined, result_value, set_enumeration, sequence_enumeration, make_record, create, apply, no_exprs, one_expr, one_case, no_binds, any_value, bound, literal_pattern, set_pattern, sequence_pattern, record_pattern, no_patterns}
use Rattle.grammar_words.specs.Pulls.{closed}
use Rattle.grammar_trees.specs.Spelling.{spelling}
use Rattle.grammar_trees.specs.Binding.{reach, Binds}
use Rattle.grammar_trees.specs.Frames.{Listed, PatternsFor, Frame, TypeNameFor, State, bracket, token_of, basic_test, set_of, sequence_of, record_of, new_of, applied_to, in_set, part_of_sequence, classes, base_classes, all_of, some_of, one_of, the_one, set_like, sequence_like, record_like, operand_of, enclosed, matched, items, tuple_start, range_end, left_class, tested, modified, if_test, subject, others_value, bind_patterns, let_start, def_pattern, case_patterns, pattern_items, tuple_pattern_start, made, asked, made_pattern, opens, comma_then, arrow_then, opens_pattern, type_after, new_name, counter_opens, class_opens, base_class_opens, empty_map_end, empty_pattern_end, has, awaits}
use Rattle.grammar_trees.specs.Machine.{in_mode, as_prefix, want_operand, empty_curly, empty_square, empty_round, empty_maps_to, dots_behind, in_items, want_word, want, empty_pattern_curly, empty_pattern_square, empty_pattern_round, empty_pattern_maps_to, in_pattern_items, others_of, in_cases, want_any, want_pattern_word, want_pattern}
use Rattle.grammar_words.specs.Tokens.{Token, identifier, quote, whole, character, text, make_named, is_named, plain}
use Rattle.grammar_words.specs.Written.{Written, at, word, IsToken, AreTokens, at_word}
use Rattle.abstract_syntax.specs.Literals.{whole_literal, character_literal, text_literal, quote_literal, boolean_literal, nil_literal}
use Rattle.vdm_kinds.specs.declared.name.Name.{Name}
use Rattle.vdm_kinds.specs.declared.place.Place.{Place}
use Rattle.vdm_kinds.specs.declared.sign.Sign.{Sign}
use Rattle.grammar_words.specs.declared.word.Word.{Word}
use Rattle.grammar_words.specs.declared.word.Word.TheVariants as word_is
use Rattle.vdm_kinds.specs.declared.sign.Sign.TheVariants as sign_is
use Rattle.grammar_trees.proofs.SoundFrames.{took, stack_took, context, Fits, StackFits, name_token, Sound}
use Rattle.grammar_trees.proofs.SoundBasics.{one_further, to_refused, to_wants, to_wants_pattern, to_has, to_has_pattern, to_awaits, before_that, Becomes}
use Rattle.grammar_trees.proofs.SoundTaken.{all_closed}

-- ---- where an expression is wanted

pub start_of : (fs : List Frame) (t : Token) (s : State) (tokens : List Token) → Becomes fs [] t s → StackFits fs → AreTokens tokens (stack_took fs) → Sound s (tokens ++ t ∷ [])
start_of fs t s tokens r g h = r.becomes g tokens (subst (λ (ws : List Written). AreTokens tokens ws) (sym (append-nil (stack_took fs))) h)

want_operand-becomes : (sign : Sign) (place : Place) (fs : List Frame) → Becomes fs [] (plain (word_is.Operator sign) place) (want_operand (as_prefix sign) place fs)
want_operand-becomes sign_is.Plus place fs = to_wants (operand_of sign_is.Positive place) (at_word (word_is.Operator sign_is.Plus) place) refl refl refl
want_operand-becomes sign_is.Minus place fs = to_wants (operand_of sign_is.Negative place) (at_word (word_is.Operator sign_is.Minus) place) refl refl refl
want_operand-becomes sign_is.Not place fs = to_wants (operand_of sign_is.Not place) (at_word (word_is.Operator sign_is.Not) place) refl refl refl
want_operand-becomes sign_is.Inverse place fs = to_wants (operand_of sign_is.Inverse place) (at_word (word_is.Operator sign_is.Inverse) place) refl refl refl
want_operand-becomes sign_is.Absolute place fs = to_wants (operand_of sign_is.Absolute place) (at_word (word_is.Operator sign_is.Absolute) place) refl refl refl
want_operand-becomes sign_is.Card place fs = to_wants (operand_of sign_is.Card place) (at_word (word_is.Operator sign_is.Card) place) refl refl refl
want_operand-becomes sign_is.PowerSet place fs = to_wants (operand_of sign_is.PowerSet place) (at_word (word_is.Operator sign_is.PowerSet) place) refl refl refl
want_operand-becomes sign_is.DistributedUnion place fs = to_wants (operand_of sign_is.DistributedUnion place) (at_word (word_is.Operator sign_is.DistributedUnion) place) refl refl refl
want_operand-becomes sign_is.DistributedInter place fs = to_wants (operand_of sign_is.DistributedInter place) (at_word (word_is.Operator sign_is.DistributedInter) place) refl refl refl
want_operand-becomes sign_is.Length place fs = to_wants (operand_of sign_is.Length place) (at_word (word_is.Operator sign_is.Length) place) refl refl refl
want_operand-becomes sign_is.Head place fs = to_wants (operand_of sign_is.Head place) (at_word (word_is.Operator sign_is.Head) place) refl refl refl
want_operand-becomes sign_is.Tail place fs = to_wants (operand_of sign_is.Tail place) (at_word (word_is.Operator sign_is.Tail) place) refl refl refl
want_operand-becomes sign_is.Indices place fs = to_wants (operand_of sign_is.Indices place) (at_word (word_is.Operator sign_is.Indices) place) refl refl refl
want_operand-becomes sign_is.Elements place fs = to_wants (operand_of sign_is.Elements place) (at_word (word_is.Operator sign_is.Elements) place) refl refl refl
want_operand-becomes sign_is.DistributedConcatenation place fs = to_wants (operand_of sign_is.DistributedConcatenation place) (at_word (word_is.Operator sign_is.DistributedConcatenation) place) refl refl refl
want_operand-becomes sign_is.Domain place fs = to_wants (operand_of sign_is.Domain place) (at_word (word_is.Operator sign_is.Domain) place) refl refl refl
want_operand-becomes sign_is.Range place fs = to_wants (operand_of sign_is.Range place) (at_word (word_is.Operator sign_is.Range) place) refl refl refl
want_operand-becomes sign_is.Merge place fs = to_wants (operand_of sign_is.Merge place) (at_word (word_is.Operator sign_is.Merge) place) refl refl refl
want_operand-becomes _ place fs = to_refused

empty_curly-becomes : (listed : Listed) (es : ExprTrees) (place : Place) (fs : List Frame) (t : Token) → IsToken t (word word_is.CloseCurly) → Fits (items listed es place) (context fs) → Becomes fs (took (items listed es place)) t (empty_curly listed es place fs)
empty_curly-becomes set_of no_exprs place fs t k h = to_has (set_enumeration no_exprs place) (word word_is.CloseCurly) k all_closed tt refl
empty_curly-becomes _ _ place fs t k h = to_refused

empty_square-becomes : (listed : Listed) (es : ExprTrees) (place : Place) (fs : List Frame) (t : Token) → IsToken t (word word_is.CloseSquare) → Fits (items listed es place) (context fs) → Becomes fs (took (items listed es place)) t (empty_square listed es place fs)
empty_square-becomes sequence_of no_exprs place fs t k h = to_has (sequence_enumeration no_exprs place) (word word_is.CloseSquare) k all_closed tt refl
empty_square-becomes _ _ place fs t k h = to_refused

empty_round-becomes : (listed : Listed) (es : ExprTrees) (place : Place) (fs : List Frame) (t : Token) → IsToken t (word word_is.CloseRound) → Fits (items listed es place) (context fs) → Becomes fs (took (items listed es place)) t (empty_round listed es place fs)
empty_round-becomes (record_of type_name) no_exprs place fs t k h = to_has (make_record type_name no_exprs place) (word word_is.CloseRound) k all_closed (h.1, tt) (simp (append_assoc, append-nil) refl)
empty_round-becomes (new_of c at_c) no_exprs place fs t k h = to_has (create c at_c no_exprs place) (word word_is.CloseRound) k all_closed tt refl
empty_round-becomes (applied_to head) no_exprs place fs t k h = to_has (apply head no_exprs place) (word word_is.CloseRound) k all_closed (h.1.0, h.1.1, h.1.2, tt) (simp (append_assoc, append-nil) refl)
empty_round-becomes _ _ place fs t k h = to_refused

empty_maps_to-becomes : (listed : Listed) (es : ExprTrees) (place : Place) (fs : List Frame) (t : Token) → IsToken t (word word_is.MapsTo) → Fits (items listed es place) (context fs) → Becomes fs (took (items listed es place)) t (empty_maps_to listed es place fs)
empty_maps_to-becomes set_of no_exprs place fs t k h = to_awaits (empty_map_end place) (λ tokens a. one_further (stack_took fs) _ _ (word word_is.MapsTo) t tokens refl k a)
empty_maps_to-becomes _ _ place fs t k h = to_refused

dots_behind-becomes : (listed : Listed) (es : ExprTrees) (place : Place) (fs : List Frame) (t : Token) → IsToken t (word word_is.Dots) → Fits (items listed es place) (context fs) → Becomes fs (took (items listed es place)) t (dots_behind listed es place fs)
dots_behind-becomes set_of (one_expr first no_exprs) place fs t k h =
    to_awaits (comma_then (range_end in_set first place)) (λ tokens a. ((h.0.0, tt), before_that fs _ _ (word word_is.Dots) word_is.Comma t tokens (simp (append_assoc, append-nil) refl) k a))
dots_behind-becomes (applied_to head) (one_expr first no_exprs) place fs t k h =
    to_awaits (comma_then (range_end (part_of_sequence head) first place)) (λ tokens a. ((h.0.0, h.1), before_that fs _ _ (word word_is.Dots) word_is.Comma t tokens (simp (append_assoc, append-nil) refl) k a))
dots_behind-becomes _ _ place fs t k h = to_refused

in_items-sound : (go : Listed → ExprTrees → Place → List Frame → State) (w : Word) (t : Token) → IsToken t (word w) → ((listed : Listed) (es : ExprTrees) (place : Place) (fs : List Frame) → Fits (items listed es place) (context fs) → Becomes fs (took (items listed es place)) t (go listed es place fs)) → (fs : List Frame) (tokens : List Token) → StackFits fs → AreTokens tokens (stack_took fs) → Sound (in_items go fs) (tokens ++ t ∷ [])
in_items-sound go w t k r [] tokens g h = record { sound = tt }
in_items-sound go w t k r (items listed es place ∷ fs) tokens g h = (r listed es place fs g.0).becomes g.1 tokens h
in_items-sound go w t k r (_ ∷ fs) tokens g h = record { sound = tt }

-- a word that begins a form with a `(`
opens-becomes : (f : Frame) (w : Word) (place : Place) (fs : List Frame) → Fits f (context fs) → took f ≡ at_word w place ∷ word word_is.OpenRound ∷ [] → Becomes fs [] (plain w place) (in_mode (awaits (opens f)) fs)
opens-becomes f w place fs h e = to_awaits (opens f) (λ tokens a. (h, before_that fs [] (took f) (at_word w place) word_is.OpenRound (plain w place) tokens e refl a))

-- a word that stands alone
alone-becomes : (e : ExprTree) (w : Word) (place : Place) (fs : List Frame) → closed ≤ reach e → Binds e (context fs) → spelling e ≡ at_word w place ∷ [] → Becomes fs [] (plain w place) (in_mode (has e) fs)
alone-becomes e w place fs r b s = to_has e (at_word w place) refl r b s

want_word-sound : (w : Word) (place : Place) (fs : List Frame) (tokens : List Token) → StackFits fs → AreTokens tokens (stack_took fs) → Sound (want_word w place fs) (tokens ++ plain w place ∷ [])
want_word-sound word_is.True place fs tokens g h = start_of fs _ _ tokens (alone-becomes (literal (boolean_literal true) place) word_is.True place fs all_closed tt refl) g h
want_word-sound word_is.False place fs tokens g h = start_of fs _ _ tokens (alone-becomes (literal (boolean_literal false) place) word_is.False place fs all_closed tt refl) g h
want_word-sound word_is.Nil place fs tokens g h = start_of fs _ _ tokens (alone-becomes (literal nil_literal place) word_is.Nil place fs all_closed tt refl) g h
want_word-sound word_is.SelfWord place fs tokens g h = start_of fs _ _ tokens (alone-becomes (self_object place) word_is.SelfWord place fs all_closed tt refl) g h
want_word-sound word_is.Time place fs tokens g h = start_of fs _ _ tokens (alone-becomes (current_time place) word_is.Time place fs all_closed tt refl) g h
want_word-sound word_is.Undefined place fs tokens g h = start_of fs _ _ tokens (alone-becomes (undefined place) word_is.Undefined place fs all_closed tt refl) g h
want_word-sound word_is.Result place fs tokens g h = start_of fs _ _ tokens (alone-becomes (result_value place) word_is.Result place fs all_closed tt refl) g h
want_word-sound (word_is.Operator sign) place fs tokens g h = start_of fs _ _ tokens (want_operand-becomes sign place fs) g h
want_word-sound word_is.OpenRound place fs tokens g h = start_of fs _ _ tokens (to_wants (enclosed bracket place) (at_word word_is.OpenRound place) refl tt refl) g h
want_word-sound word_is.OpenCurly place fs tokens g h = start_of fs _ _ tokens (to_wants (items set_of no_exprs place) (at_word word_is.OpenCurly place) refl (tt, tt) refl) g h
want_word-sound word_is.OpenSquare place fs tokens g h = start_of fs _ _ tokens (to_wants (items sequence_of no_exprs place) (at_word word_is.OpenSquare place) refl (tt, tt) refl) g h
want_word-sound word_is.CloseCurly place fs tokens g h = in_items-sound empty_curly word_is.CloseCurly _ (place, refl) (λ l es at_l gs f. empty_curly-becomes l es at_l gs _ (place, refl) f) fs tokens g h
want_word-sound word_is.CloseSquare place fs tokens g h = in_items-sound empty_square word_is.CloseSquare _ (place, refl) (λ l es at_l gs f. empty_square-becomes l es at_l gs _ (place, refl) f) fs tokens g h
want_word-sound word_is.CloseRound place fs tokens g h = in_items-sound empty_round word_is.CloseRound _ (place, refl) (λ l es at_l gs f. empty_round-becomes l es at_l gs _ (place, refl) f) fs tokens g h
want_word-sound word_is.MapsTo place fs tokens g h = in_items-sound empty_maps_to word_is.MapsTo _ (place, refl) (λ l es at_l gs f. empty_maps_to-becomes l es at_l gs _ (place, refl) f) fs tokens g h
want_word-sound word_is.Dots place fs tokens g h = in_items-sound dots_behind word_is.Dots _ (place, refl) (λ l es at_l gs f. dots_behind-becomes l es at_l gs _ (place, refl) f) fs tokens g h
want_word-sound word_is.MakeTuple place fs tokens g h = start_of fs _ _ tokens (opens-becomes (tuple_start place) word_is.MakeTuple place fs tt refl) g h
want_word-sound word_is.MakeToken place fs tokens g h = start_of fs _ _ tokens (opens-becomes (enclosed token_of place) word_is.MakeToken place fs tt refl) g h
want_word-sound word_is.IsType place fs tokens g h = start_of fs _ _ tokens (opens-becomes (tested place) word_is.IsType place fs tt refl) g h
want_word-sound (word_is.IsBasic basic) place fs tokens g h = start_of fs _ _ tokens (opens-becomes (enclosed (basic_test basic) place) (word_is.IsBasic basic) place fs tt refl) g h
want_word-sound word_is.Modify place fs tokens g h = start_of fs _ _ tokens (opens-becomes (modified place) word_is.Modify place fs tt refl) g h
want_word-sound word_is.New place fs tokens g h = start_of fs _ _ tokens (to_awaits (new_name place) (λ ts a. one_further (stack_took fs) [] _ (at_word word_is.New place) _ ts refl refl a)) g h
want_word-sound word_is.IsOfClass place fs tokens g h = start_of fs _ _ tokens (to_awaits (class_opens place) (λ ts a. one_further (stack_took fs) [] _ (at_word word_is.IsOfClass place) _ ts refl refl a)) g h
want_word-sound word_is.IsOfBaseClass place fs tokens g h = start_of fs _ _ tokens (to_awaits (base_class_opens place) (λ ts a. one_further (stack_took fs) [] _ (at_word word_is.IsOfBaseClass place) _ ts refl refl a)) g h
want_word-sound word_is.SameClass place fs tokens g h = start_of fs _ _ tokens (opens-becomes (left_class classes place) word_is.SameClass place fs tt refl) g h
want_word-sound word_is.SameBaseClass place fs tokens g h = start_of fs _ _ tokens (opens-becomes (left_class base_classes place) word_is.SameBaseClass place fs tt refl) g h
want_word-sound (word_is.Counter counter) place fs tokens g h = start_of fs _ _ tokens (to_awaits (counter_opens counter place) (λ ts a. one_further (stack_took fs) [] _ (at_word (word_is.Counter counter) place) _ ts refl refl a)) g h
want_word-sound word_is.Let place fs tokens g h = start_of fs _ _ tokens (to_wants_pattern (let_start place) (at_word word_is.Let place) refl tt refl) g h
want_word-sound word_is.Def place fs tokens g h = start_of fs _ _ tokens (to_wants_pattern (def_pattern place) (at_word word_is.Def place) refl tt refl) g h
want_word-sound word_is.If place fs tokens g h = start_of fs _ _ tokens (to_wants (if_test place) (at_word word_is.If place) refl tt refl) g h
want_word-sound word_is.Cases place fs tokens g h = start_of fs _ _ tokens (to_wants (subject place) (at_word word_is.Cases place) refl tt refl) g h
want_word-sound word_is.Forall place fs tokens g h = start_of fs _ _ tokens (to_wants_pattern (bind_patterns all_of no_binds no_patterns place) (at_word word_is.Forall place) refl (tt, tt, tt, tt, tt) refl) g h
want_word-sound word_is.Exists place fs tokens g h = start_of fs _ _ tokens (to_wants_pattern (bind_patterns some_of no_binds no_patterns place) (at_word word_is.Exists place) refl (tt, tt, tt, tt, tt) refl) g h
want_word-sound word_is.ExistsOne place fs tokens g h = start_of fs _ _ tokens (to_wants_pattern (bind_patterns one_of no_binds no_patterns place) (at_word word_is.ExistsOne place) refl (tt, refl, tt, tt, tt) refl) g h
want_word-sound word_is.Iota place fs tokens g h = start_of fs _ _ tokens (to_wants_pattern (bind_patterns the_one no_binds no_patterns place) (at_word word_is.Iota place) refl (tt, refl, tt, tt, refl) refl) g h
want_word-sound _ place fs tokens g h = record { sound = tt }

named-awaits : (for : TypeNameFor) (name : Name) (place : Place) (fs : List Frame) → Becomes fs [] (name_token for name place) (in_mode (awaits (type_after for name place)) fs)
named-awaits for name place fs = to_awaits (type_after for name place) (λ ts a. one_further (stack_took fs) [] _ (at (name_token for name place)) _ ts refl refl a)

pub want-sound : (t : Token) (fs : List Frame) (tokens : List Token) → StackFits fs → AreTokens tokens (stack_took fs) → Sound (want t fs) (tokens ++ t ∷ [])
want-sound (identifier name place) fs tokens g h = start_of fs _ _ tokens (to_has (named name place) (at (identifier name place)) refl all_closed tt refl) g h
want-sound (quote name place) fs tokens g h = start_of fs _ _ tokens (to_has (literal (quote_literal name) place) (at (quote name place)) refl all_closed tt refl) g h
want-sound (whole n place) fs tokens g h = start_of fs _ _ tokens (to_has (literal (whole_literal n) place) (at (whole n place)) refl all_closed tt refl) g h
want-sound (character c place) fs tokens g h = start_of fs _ _ tokens (to_has (literal (character_literal c) place) (at (character c place)) refl all_closed tt refl) g h
want-sound (text cs place) fs tokens g h = start_of fs _ _ tokens (to_has (literal (text_literal cs) place) (at (text cs place)) refl all_closed tt refl) g h
want-sound (make_named name place) fs tokens g h = start_of fs _ _ tokens (named-awaits made name place fs) g h
want-sound (is_named name place) fs tokens g h = start_of fs _ _ tokens (named-awaits asked name place fs) g h
want-sound (plain w place) fs tokens g h = want_word-sound w place fs tokens g h

-- ---- where a pattern is wanted

empty_pattern_curly-becomes : (listed : PatternsFor) (ps : PatternTrees) (place : Place) (fs : List Frame) (t : Token) → IsToken t (word word_is.CloseCurly) → Fits (pattern_items listed ps place) (context fs) → Becomes fs (took (pattern_items listed ps place)) t (empty_pattern_curly listed ps place fs)
empty_pattern_curly-becomes set_like no_patterns place fs t k h = to_has_pattern (set_pattern no_patterns place) (word word_is.CloseCurly) k tt tt refl
empty_pattern_curly-becomes _ _ place fs t k h = to_refused

empty_pattern_square-becomes : (listed : PatternsFor) (ps : PatternTrees) (place : Place) (fs : List Frame) (t : Token) → IsToken t (word word_is.CloseSquare) → Fits (pattern_items listed ps place) (context fs) → Becomes fs (took (pattern_items listed ps place)) t (empty_pattern_square listed ps place fs)
empty_pattern_square-becomes sequence_like no_patterns place fs t k h = to_has_pattern (sequence_pattern no_patterns place) (word word_is.CloseSquare) k tt tt refl
empty_pattern_square-becomes _ _ place fs t k h = to_refused

empty_pattern_round-becomes : (listed : PatternsFor) (ps : PatternTrees) (place : Place) (fs : List Frame) (t : Token) → IsToken t (word word_is.CloseRound) → Fits (pattern_items listed ps place) (context fs) → Becomes fs (took (pattern_items listed ps place)) t (empty_pattern_round listed ps place fs)
empty_pattern_round-becomes (record_like type_name) no_patterns place fs t k h = to_has_pattern (record_pattern type_name no_patterns place) (word word_is.CloseRound) k tt (h.1, tt) (simp (append_assoc, append-nil) refl)
empty_pattern_round-becomes _ _ place fs t k h = to_refused

empty_pattern_maps_to-becomes : (listed : PatternsFor) (ps : PatternTrees) (place : Place) (fs : List Frame) (t : Token) → IsToken t (word word_is.MapsTo) → Fits (pattern_items listed ps place) (context fs) → Becomes fs (took (pattern_items listed ps place)) t (empty_pattern_maps_to listed ps place fs)
empty_pattern_maps_to-becomes set_like no_patterns place fs t k h = to_awaits (empty_pattern_end place) (λ tokens a. one_further (stack_took fs) _ _ (word word_is.MapsTo) t tokens refl k a)
empty_pattern_maps_to-becomes _ _ place fs t k h = to_refused

in_pattern_items-sound : (go : PatternsFor → PatternTrees → Place → List Frame → State) (w : Word) (t : Token) → IsToken t (word w) → ((listed : PatternsFor) (ps : PatternTrees) (place : Place) (fs : List Frame) → Fits (pattern_items listed ps place) (context fs) → Becomes fs (took (pattern_items listed ps place)) t (go listed ps place fs)) → (fs : List Frame) (tokens : List Token) → StackFits fs → AreTokens tokens (stack_took fs) → Sound (in_pattern_items go fs) (tokens ++ t ∷ [])
in_pattern_items-sound go w t k r [] tokens g h = record { sound = tt }
in_pattern_items-sound go w t k r (pattern_items listed ps place ∷ fs) tokens g h = (r listed ps place fs g.0).becomes g.1 tokens h
in_pattern_items-sound go w t k r (_ ∷ fs) tokens g h = record { sound = tt }

others_of-becomes : (e : ExprTree) (cs : CaseTrees) (ps : PatternTrees) (place : Place) (fs : List Frame) (t : Token) → IsToken t (word word_is.Others) → Fits (case_patterns e cs ps place) (context fs) → Becomes fs (took (case_patterns e cs ps place)) t (others_of e cs ps place fs)
others_of-becomes e (one_case qs v cs) no_patterns place fs t k h =
    to_awaits (arrow_then (others_value e (one_case qs v cs) place)) (λ tokens a. ((h.0, tt, h.1), before_that fs _ _ (word word_is.Others) word_is.Arrow t tokens (simp (append_assoc, append-nil) refl) k a))
others_of-becomes e _ _ place fs t k h = to_refused

in_cases-sound : (fs : List Frame) (t : Token) (tokens : List Token) → IsToken t (word word_is.Others) → StackFits fs → AreTokens tokens (stack_took fs) → Sound (in_cases fs) (tokens ++ t ∷ [])
in_cases-sound [] t tokens k g h = record { sound = tt }
in_cases-sound (case_patterns e cs ps place ∷ fs) t tokens k g h = (others_of-becomes e cs ps place fs t k g.0).becomes g.1 tokens h
in_cases-sound (_ ∷ fs) t tokens k g h = record { sound = tt }

want_any-becomes : (sign : Sign) (place : Place) (fs : List Frame) → Becomes fs [] (plain (word_is.Operator sign) place) (want_any sign place fs)
want_any-becomes sign_is.Minus place fs = to_has_pattern (any_value place) (at_word (word_is.Operator sign_is.Minus) place) refl tt tt refl
want_any-becomes _ place fs = to_refused

want_pattern_word-sound : (w : Word) (place : Place) (fs : List Frame) (tokens : List Token) → StackFits fs → AreTokens tokens (stack_took fs) → Sound (want_pattern_word w place fs) (tokens ++ plain w place ∷ [])
want_pattern_word-sound word_is.True place fs tokens g h = start_of fs _ _ tokens (to_has_pattern (literal_pattern (boolean_literal true) place) (at_word word_is.True place) refl tt tt refl) g h
want_pattern_word-sound word_is.False place fs tokens g h = start_of fs _ _ tokens (to_has_pattern (literal_pattern (boolean_literal false) place) (at_word word_is.False place) refl tt tt refl) g h
want_pattern_word-sound word_is.Nil place fs tokens g h = start_of fs _ _ tokens (to_has_pattern (literal_pattern nil_literal place) (at_word word_is.Nil place) refl tt tt refl) g h
want_pattern_word-sound (word_is.Operator sign) place fs tokens g h = start_of fs _ _ tokens (want_any-becomes sign place fs) g h
want_pattern_word-sound word_is.OpenRound place fs tokens g h = start_of fs _ _ tokens (to_wants (matched place) (at_word word_is.OpenRound place) refl tt refl) g h
want_pattern_word-sound word_is.OpenCurly place fs tokens g h = start_of fs _ _ tokens (to_wants_pattern (pattern_items set_like no_patterns place) (at_word word_is.OpenCurly place) refl (tt, tt) refl) g h
want_pattern_word-sound word_is.OpenSquare place fs tokens g h = start_of fs _ _ tokens (to_wants_pattern (pattern_items sequence_like no_patterns place) (at_word word_is.OpenSquare place) refl (tt, tt) refl) g h
want_pattern_word-sound word_is.CloseCurly place fs tokens g h = in_pattern_items-sound empty_pattern_curly word_is.CloseCurly _ (place, refl) (λ l ps at_l gs f. empty_pattern_curly-becomes l ps at_l gs _ (place, refl) f) fs tokens g h
want_pattern_word-sound word_is.CloseSquare place fs tokens g h = in_pattern_items-sound empty_pattern_square word_is.CloseSquare _ (place, refl) (λ l ps at_l gs f. empty_pattern_square-becomes l ps at_l gs _ (place, refl) f) fs tokens g h
want_pattern_word-sound word_is.CloseRound place fs tokens g h = in_pattern_items-sound empty_pattern_round word_is.CloseRound _ (place, refl) (λ l ps at_l gs f. empty_pattern_round-becomes l ps at_l gs _ (place, refl) f) fs tokens g h
want_pattern_word-sound word_is.MapsTo place fs tokens g h = in_pattern_items-sound empty_pattern_maps_to word_is.MapsTo _ (place, refl) (λ l ps at_l gs f. empty_pattern_maps_to-becomes l ps at_l gs _ (place, refl) f) fs tokens g h
want_pattern_word-sound word_is.MakeTuple place fs tokens g h =
    start_of fs _ _ tokens (to_awaits (opens_pattern (tuple_pattern_start place)) (λ ts a. (tt, before_that fs [] _ (at_word word_is.MakeTuple place) word_is.OpenRound _ ts refl refl a))) g h
want_pattern_word-sound word_is.Others place fs tokens g h = in_cases-sound fs _ tokens (place, refl) g h
want_pattern_word-sound _ place fs tokens g h = record { sound = tt }

pub want_pattern-sound : (t : Token) (fs : List Frame) (tokens : List Token) → StackFits fs → AreTokens tokens (stack_took fs) → Sound (want_pattern t fs) (tokens ++ t ∷ [])
want_pattern-sound (identifier name place) fs tokens g h = start_of fs _ _ tokens (to_has_pattern (bound name place) (at (identifier name place)) refl tt tt refl) g h
want_pattern-sound (quote name place) fs tokens g h = start_of fs _ _ tokens (to_has_pattern (literal_pattern (quote_literal name) place) (at (quote name place)) refl tt tt refl) g h
want_pattern-sound (whole n place) fs tokens g h = start_of fs _ _ tokens (to_has_pattern (literal_pattern (whole_literal n) place) (at (whole n place)) refl tt tt refl) g h
want_pattern-sound (character c place) fs tokens g h = start_of fs _ _ tokens (to_has_pattern (literal_pattern (character_literal c) place) (at (character c place)) refl tt tt refl) g h
want_pattern-sound (text cs place) fs tokens g h = start_of fs _ _ tokens (to_has_pattern (literal_pattern (text_literal cs) place) (at (text cs place)) refl tt tt refl) g h
want_pattern-sound (make_named name place) fs tokens g h = start_of fs _ _ tokens (named-awaits made_pattern name place fs) g h
want_pattern-sound (is_named name place) fs tokens g h = record { sound = tt }
want_pattern-sound (plain w place) fs tokens g h = want_pattern_word-sound w place fs tokens g h
