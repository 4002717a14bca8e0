-- What is read off tokens is the tree that they are.
use Rattle.std.proofs.Common.{◌≡◌, Bool, true, false, nat_lt, if◌then◌else◌, List, [], ◌∷◌, ◌++◌, Option, Some, None, refl, ap, sym, subst, arith, append_assoc, append-nil, map}
use Rattle.abstract_syntax.specs.Expressions.{ExprTree, DefinedTrees, PatternTree, is_of_type}
use Rattle.type_reading.specs.TypeSpelling.{type_spelling, IsTypeOf}
use Rattle.grammar_trees.specs.Frames.{Frame, Mode, State, let_value, concatenated, test_type, let_type, type_bracket, wants, has, wants_pattern, has_pattern, awaits, typing, refused, nothing, an_expr, a_pattern}
use Rattle.grammar_trees.specs.Machine.{in_mode, pull, completed, TypeReader, end_test, end_let, close_type, close_square_type, equal_type, sign_of_type, word_of_type, type_on, step_in, step, end_expr, end_pattern, end_in, run}
use Rattle.grammar_trees.specs.Trees.{IsTree, IsPatternOf}
use Rattle.grammar_words.specs.Tokens.{Token, identifier, quote, whole, character, text, make_named, is_named, plain}
use Rattle.grammar_words.specs.Written.{Written, at, word, AreTokens}
use Rattle.abstract_syntax.specs.Types.{TypeTree}
use Rattle.vdm_kinds.specs.declared.place.Place.{Place}
use Rattle.vdm_kinds.specs.declared.sign.Sign.{Sign}
use Rattle.grammar_words.specs.declared.word.Word.{Word}
use Rattle.grammar_words.specs.declared.word.Word.TheVariants as word_is
use Rattle.vdm_kinds.specs.declared.sign.Sign.TheVariants as sign_is
use Rattle.grammar_trees.proofs.SoundFrames.{took, stack_took, StackFits, sound_in, Sound}
use Rattle.grammar_trees.proofs.SoundBasics.{one_further, to_wants, to_has, Becomes}
use Rattle.grammar_trees.proofs.SoundTaken.{all_closed}
use Rattle.grammar_trees.proofs.SoundPatterns.{follow_pattern-sound, end_pattern-sound}
use Rattle.grammar_trees.proofs.SoundSteps.{want-sound, want_pattern-sound}
use Rattle.grammar_trees.proofs.SoundFollow.{await-sound, follow-sound, end_expr-sound}

-- ---- types

-- what the reader gives is the type that the tokens are
pub record FindsTypes (types : TypeReader) : Type 0 where
  pub finds : (tokens : List Token) (tree : TypeTree) → types tokens ≡ Some tree → IsTypeOf tokens tree

kept : (ts : List Token) (t : Token) → map at (ts ++ t ∷ []) ≡ map at ts ++ at t ∷ []
kept [] t = refl
kept (u ∷ us) t = ap (λ (ws : List Written). at u ∷ ws) (kept us t)

-- one token more of a type
collects-sound : (ts : List Token) (t : Token) (fs : List Frame) (tokens : List Token) → StackFits fs → AreTokens tokens (stack_took fs ++ map at ts) → Sound (in_mode (typing (ts ++ t ∷ [])) fs) (tokens ++ t ∷ [])
collects-sound ts t fs tokens g h = record { sound = (g, one_further (stack_took fs) (map at ts) (map at (ts ++ t ∷ [])) (at t) t tokens (kept ts t) refl h) }

opens-sound : (ts : List Token) (t : Token) (fs : List Frame) (tokens : List Token) → StackFits fs → AreTokens tokens (stack_took fs ++ map at ts) → Sound (in_mode (typing (ts ++ t ∷ [])) (type_bracket ∷ fs)) (tokens ++ t ∷ [])
opens-sound ts t fs tokens g h =
    record { sound = ((tt, g), subst (λ (ws : List Written). AreTokens (tokens ++ t ∷ []) (ws ++ map at (ts ++ t ∷ []))) (sym (append-nil (stack_took fs))) (one_further (stack_took fs) (map at ts) (map at (ts ++ t ∷ [])) (at t) t tokens (kept ts t) refl h)) }

closes-sound : (ts : List Token) (t : Token) (fs : List Frame) (tokens : List Token) → StackFits (type_bracket ∷ fs) → AreTokens tokens (stack_took (type_bracket ∷ fs) ++ map at ts) → Sound (in_mode (typing (ts ++ t ∷ [])) fs) (tokens ++ t ∷ [])
closes-sound ts t fs tokens g h = collects-sound ts t fs tokens g.1 (subst (λ (ws : List Written). AreTokens tokens (ws ++ map at ts)) (append-nil (stack_took fs)) h)

these : (tokens ts : List Token) → AreTokens tokens (map at ts) → tokens ≡ ts
these [] [] h = refl
these (t ∷ tokens) (u ∷ us) h = let e = these tokens us h.1 in cc (h.0)
these [] (u ∷ us) h = absurd h
these (t ∷ tokens) [] h = absurd h

-- tokens that stand for themselves may be written otherwise
rewritten : (tokens : List Token) (start ws : List Written) (ts : List Token) → AreTokens ts ws → AreTokens tokens (start ++ map at ts) → AreTokens tokens (start ++ ws)
rewritten tokens [] ws ts k h = subst (λ (us : List Token). AreTokens us ws) (sym (these tokens ts h)) k
rewritten [] (v ∷ vs) ws ts k h = absurd h
rewritten (t ∷ tokens) (v ∷ vs) ws ts k h = (h.0, rewritten tokens vs ws ts k h.1)

-- a frame that a type ends
typed : (types : TypeReader) (ts : List Token) (tree : TypeTree) (f : Frame) (fs : List Frame) (t : Token) (s : State) (tokens : List Token) → FindsTypes types → types ts ≡ Some tree → StackFits fs → AreTokens tokens (stack_took (f ∷ fs) ++ map at ts) → Becomes fs (took f ++ type_spelling tree) t s → Sound s (tokens ++ t ∷ [])
typed types ts tree f fs t s tokens finds e g h r =
    r.becomes g tokens (subst (λ (ws : List Written). AreTokens tokens ws) (append_assoc (stack_took fs) (took f) (type_spelling tree)) (rewritten tokens (stack_took (f ∷ fs)) (type_spelling tree) ts (finds.finds ts tree e).spelled h))

end_test-sound : (types : TypeReader) (found : Option TypeTree) (ts : List Token) (e : ExprTree) (place spot : Place) (fs : List Frame) (tokens : List Token) → FindsTypes types → types ts ≡ found → StackFits (test_type e place ∷ fs) → AreTokens tokens (stack_took (test_type e place ∷ fs) ++ map at ts) → Sound (end_test found e place fs) (tokens ++ plain word_is.CloseRound spot ∷ [])
end_test-sound types None ts e place spot fs tokens finds q g h = record { sound = tt }
end_test-sound types (Some tree) ts e place spot fs tokens finds q g h =
    typed types ts tree (test_type e place) fs _ _ tokens finds q g.1 h
    (to_has (is_of_type e tree place) (word word_is.CloseRound) (spot, refl) all_closed (g.0, (finds.finds ts tree q).grammatical) (simp append_assoc refl))

end_let-sound : (types : TypeReader) (found : Option TypeTree) (ts : List Token) (ds : DefinedTrees) (p : PatternTree) (place spot : Place) (fs : List Frame) (tokens : List Token) → FindsTypes types → types ts ≡ found → StackFits (let_type ds p place ∷ fs) → AreTokens tokens (stack_took (let_type ds p place ∷ fs) ++ map at ts) → Sound (end_let found ds p place fs) (tokens ++ plain (word_is.Operator sign_is.Equal) spot ∷ [])
end_let-sound types None ts ds p place spot fs tokens finds q g h = record { sound = tt }
end_let-sound types (Some tree) ts ds p place spot fs tokens finds q g h =
    typed types ts tree (let_type ds p place) fs _ _ tokens finds q g.1 h
    (to_wants (let_value ds p (Some tree) place) (word (word_is.Operator sign_is.Equal)) (spot, refl) (g.0.0, g.0.1, (finds.finds ts tree q).grammatical) (simp append_assoc refl))

close_type-sound : (types : TypeReader) (ts : List Token) (spot : Place) (fs : List Frame) (tokens : List Token) → FindsTypes types → StackFits fs → AreTokens tokens (stack_took fs ++ map at ts) → Sound (close_type types ts (plain word_is.CloseRound spot) fs) (tokens ++ plain word_is.CloseRound spot ∷ [])
close_type-sound types ts spot [] tokens finds g h = record { sound = tt }
close_type-sound types ts spot (type_bracket ∷ fs) tokens finds g h = closes-sound ts _ fs tokens g h
close_type-sound types ts spot (test_type e place ∷ fs) tokens finds g h = end_test-sound types (types ts) ts e place spot fs tokens finds refl g h
close_type-sound types ts spot (_ ∷ fs) tokens finds g h = record { sound = tt }

close_square_type-sound : (ts : List Token) (t : Token) (fs : List Frame) (tokens : List Token) → StackFits fs → AreTokens tokens (stack_took fs ++ map at ts) → Sound (close_square_type ts t fs) (tokens ++ t ∷ [])
close_square_type-sound ts t [] tokens g h = record { sound = tt }
close_square_type-sound ts t (type_bracket ∷ fs) tokens g h = closes-sound ts t fs tokens g h
close_square_type-sound ts t (_ ∷ fs) tokens g h = record { sound = tt }

equal_type-sound : (types : TypeReader) (ts : List Token) (spot : Place) (fs : List Frame) (tokens : List Token) → FindsTypes types → StackFits fs → AreTokens tokens (stack_took fs ++ map at ts) → Sound (equal_type types ts fs) (tokens ++ plain (word_is.Operator sign_is.Equal) spot ∷ [])
equal_type-sound types ts spot [] tokens finds g h = record { sound = tt }
equal_type-sound types ts spot (let_type ds p place ∷ fs) tokens finds g h = end_let-sound types (types ts) ts ds p place spot fs tokens finds refl g h
equal_type-sound types ts spot (_ ∷ fs) tokens finds g h = record { sound = tt }

sign_of_type-sound : (types : TypeReader) (sign : Sign) (ts : List Token) (spot : Place) (fs : List Frame) (tokens : List Token) → FindsTypes types → StackFits fs → AreTokens tokens (stack_took fs ++ map at ts) → Sound (sign_of_type types sign ts (plain (word_is.Operator sign) spot) fs) (tokens ++ plain (word_is.Operator sign) spot ∷ [])
sign_of_type-sound types sign_is.Equal ts spot fs tokens finds g h = equal_type-sound types ts spot fs tokens finds g h
sign_of_type-sound types sign ts spot fs tokens finds g h = collects-sound ts (plain (word_is.Operator sign) spot) fs tokens g h

word_of_type-sound : (types : TypeReader) (w : Word) (ts : List Token) (spot : Place) (fs : List Frame) (tokens : List Token) → FindsTypes types → StackFits fs → AreTokens tokens (stack_took fs ++ map at ts) → Sound (word_of_type types w ts (plain w spot) fs) (tokens ++ plain w spot ∷ [])
word_of_type-sound types word_is.OpenRound ts spot fs tokens finds g h = opens-sound ts _ fs tokens g h
word_of_type-sound types word_is.OpenSquare ts spot fs tokens finds g h = opens-sound ts _ fs tokens g h
word_of_type-sound types word_is.CloseRound ts spot fs tokens finds g h = close_type-sound types ts spot fs tokens finds g h
word_of_type-sound types word_is.CloseSquare ts spot fs tokens finds g h = close_square_type-sound ts _ fs tokens g h
word_of_type-sound types (word_is.Operator sign) ts spot fs tokens finds g h = sign_of_type-sound types sign ts spot fs tokens finds g h
word_of_type-sound types w ts spot fs tokens finds g h = collects-sound ts (plain w spot) fs tokens g h

type_on-sound : (types : TypeReader) (t : Token) (ts : List Token) (fs : List Frame) (tokens : List Token) → FindsTypes types → StackFits fs → AreTokens tokens (stack_took fs ++ map at ts) → Sound (type_on types t ts fs) (tokens ++ t ∷ [])
type_on-sound types (plain w place) ts fs tokens finds g h = word_of_type-sound types w ts place fs tokens finds g h
type_on-sound types (identifier name place) ts fs tokens finds g h = collects-sound ts (identifier name place) fs tokens g h
type_on-sound types (quote name place) ts fs tokens finds g h = collects-sound ts (quote name place) fs tokens g h
type_on-sound types (whole n place) ts fs tokens finds g h = collects-sound ts (whole n place) fs tokens g h
type_on-sound types (character c place) ts fs tokens finds g h = collects-sound ts (character c place) fs tokens g h
type_on-sound types (text cs place) ts fs tokens finds g h = collects-sound ts (text cs place) fs tokens g h
type_on-sound types (make_named name place) ts fs tokens finds g h = collects-sound ts (make_named name place) fs tokens g h
type_on-sound types (is_named name place) ts fs tokens finds g h = collects-sound ts (is_named name place) fs tokens g h

-- ---- the machine

step-sound : (types : TypeReader) (mode : Mode) (fs : List Frame) (t : Token) (tokens : List Token) → FindsTypes types → sound_in mode fs tokens → Sound (step_in types mode fs t) (tokens ++ t ∷ [])
step-sound types wants fs t tokens finds h = want-sound t fs tokens h.0 h.1
step-sound types (has e) fs t tokens finds h = follow-sound t e fs tokens h
step-sound types wants_pattern fs t tokens finds h = want_pattern-sound t fs tokens h.0 h.1
step-sound types (has_pattern p) fs t tokens finds h = follow_pattern-sound t p fs tokens h.0 h.1 h.2 h.3
step-sound types (awaits header) fs t tokens finds h = await-sound header t fs tokens h.0 h.1
step-sound types (typing ts) fs t tokens finds h = type_on-sound types t ts fs tokens finds h.0 h.1
step-sound types refused fs t tokens finds h = record { sound = tt }

end-expr : (mode : Mode) (fs : List Frame) (tokens : List Token) (tree : ExprTree) → sound_in mode fs tokens → end_in mode fs ≡ an_expr tree → IsTree tokens tree
end-expr (has e) fs tokens tree h q = let r = h.1 in end_expr-sound e fs tokens tree h.0 h.2 (omega arith) h.3 q
end-expr (has_pattern p) fs tokens tree h q = absurd (no-expr p fs q)
  where
    no-expr : (a : PatternTree) (gs : List Frame) → end_pattern a gs ≡ an_expr tree → ⊥
    no-expr a [] k = cc
    no-expr a (concatenated ps place ∷ []) k = cc
    no-expr a _ k = cc
end-expr _ fs tokens tree h q = absurd (cc)

no-pattern : (e : ExprTree) (fs : List Frame) (tree : PatternTree) → end_expr e fs ≡ a_pattern tree → ⊥
no-pattern e [] tree q = cc
no-pattern e (f ∷ fs) tree q = by (nat_lt 0 (pull f)) q (λ k. no-pattern (completed f e) fs tree k)
  where
    by : (c : Bool) → (if c then end_expr (completed f e) fs else nothing) ≡ a_pattern tree → (end_expr (completed f e) fs ≡ a_pattern tree → ⊥) → ⊥
    by true k x = x k
    by false k x = cc

end-pattern : (mode : Mode) (fs : List Frame) (tokens : List Token) (tree : PatternTree) → sound_in mode fs tokens → end_in mode fs ≡ a_pattern tree → IsPatternOf tokens tree
end-pattern (has e) fs tokens tree h q = absurd (no-pattern e fs tree q)
end-pattern (has_pattern p) fs tokens tree h q = end_pattern-sound p fs tokens tree h.0 h.1 h.2 h.3 q
end-pattern _ fs tokens tree h q = absurd (cc)

run-expr : (types : TypeReader) (tokens done : List Token) (s : State) (tree : ExprTree) → FindsTypes types → Sound s done → run types tokens s ≡ an_expr tree → IsTree (done ++ tokens) tree
run-expr types [] done s tree finds h q = subst (λ (ts : List Token). IsTree ts tree) (sym (append-nil done)) (end-expr s.mode s.frames done tree h.sound q)
run-expr types (t ∷ ts) done s tree finds h q =
    subst (λ (us : List Token). IsTree us tree) (append_assoc done (t ∷ []) ts)
    (run-expr types ts (done ++ t ∷ []) (step types s t) tree finds (step-sound types s.mode s.frames t done finds h.sound) q)

run-pattern : (types : TypeReader) (tokens done : List Token) (s : State) (tree : PatternTree) → FindsTypes types → Sound s done → run types tokens s ≡ a_pattern tree → IsPatternOf (done ++ tokens) tree
run-pattern types [] done s tree finds h q = subst (λ (ts : List Token). IsPatternOf ts tree) (sym (append-nil done)) (end-pattern s.mode s.frames done tree h.sound q)
run-pattern types (t ∷ ts) done s tree finds h q =
    subst (λ (us : List Token). IsPatternOf us tree) (append_assoc done (t ∷ []) ts)
    (run-pattern types ts (done ++ t ∷ []) (step types s t) tree finds (step-sound types s.mode s.frames t done finds h.sound) q)

pub read-expr : (types : TypeReader) → FindsTypes types → (tokens : List Token) (tree : ExprTree) → run types tokens (in_mode wants []) ≡ an_expr tree → IsTree tokens tree
read-expr types finds tokens tree q = run-expr types tokens [] (in_mode wants []) tree finds (record { sound = (tt, tt) }) q

pub read-pattern : (types : TypeReader) → FindsTypes types → (tokens : List Token) (tree : PatternTree) → run types tokens (in_mode wants_pattern []) ≡ a_pattern tree → IsPatternOf tokens tree
read-pattern types finds tokens tree q = run-pattern types tokens [] (in_mode wants_pattern []) tree finds (record { sound = (tt, tt) }) q
