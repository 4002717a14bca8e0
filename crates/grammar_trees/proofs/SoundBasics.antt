-- What a token makes of what was read.
use Rattle.std.proofs.Common.{◌≡◌, ◌≤◌, List, [], ◌∷◌, ◌++◌, refl, ap, sym, subst, ◌∙◌, append_assoc, append-nil}
use Rattle.abstract_syntax.specs.Expressions.{ExprTree, PatternTree}
use Rattle.grammar_words.specs.Pulls.{closed}
use Rattle.grammar_trees.specs.Spelling.{spelling, pattern_spelling}
use Rattle.grammar_trees.specs.Binding.{reach, IsSinglePattern, Binds, IsPattern}
use Rattle.grammar_trees.specs.Frames.{Frame, Header, State, wants, has, wants_pattern, has_pattern, awaits, typing}
use Rattle.grammar_trees.specs.Machine.{in_mode, no_tree, stop_of_sign, stop_of, at_comma, at_round, at_square, at_curly, at_maps_to, at_then, at_in, at_colon, at_end, at_in_set, at_equal, Stop, comma, close_round, close_square, close_curly, bar, maps_to, ampersand, then_stop, elseif_stop, else_stop, in_stop, be_stop, colon, arrow, end_stop, in_set_stop, equal_stop, no_stop}
use Rattle.grammar_words.specs.Tokens.{Token, plain}
use Rattle.grammar_words.specs.Written.{Written, word, IsToken, AreTokens}
use Rattle.vdm_kinds.specs.declared.place.Place.{Place}
use Rattle.vdm_kinds.specs.declared.sign.Sign.{Sign}
use Rattle.grammar_words.specs.declared.word.Word.{Word}
use Rattle.grammar_words.specs.declared.word.Word.TheVariants as word_is
use Rattle.vdm_kinds.specs.declared.sign.Sign.TheVariants as sign_is
use Rattle.grammar_trees.proofs.SoundFrames.{took, stack_took, context, Fits, StackFits, Before, Awaiting, Sound}
use Rattle.grammar_trees.proofs.TypesTaken.{AreTokens-append}

-- ---- one token more

pub one_further : (start ws all : List Written) (w : Written) (t : Token) (tokens : List Token) → all ≡ ws ++ w ∷ [] → IsToken t w → AreTokens tokens (start ++ ws) → AreTokens (tokens ++ t ∷ []) (start ++ all)
one_further start ws all w t tokens e k h =
    subst (λ (vs : List Written). AreTokens (tokens ++ t ∷ []) vs) (append_assoc start ws (w ∷ []) ∙ ap (λ (vs : List Written). start ++ vs) (sym e))
    (AreTokens-append tokens (start ++ ws) (t ∷ []) (w ∷ []) h (k, tt))

-- what a token makes of the frames and of what was read besides
pub record Becomes (fs : List Frame) (ws : List Written) (t : Token) (s : State) : Type 0 where
  pub becomes : StackFits fs → (tokens : List Token) → AreTokens tokens (stack_took fs ++ ws) → Sound s (tokens ++ t ∷ [])

pub to_refused : {fs : List Frame} {ws : List Written} {t : Token} → Becomes fs ws t no_tree
to_refused = record { becomes = λ g tokens h. record { sound = tt } }

pub to_wants : {fs : List Frame} {ws : List Written} {t : Token} (f : Frame) (w : Written) → IsToken t w → Fits f (context fs) → took f ≡ ws ++ w ∷ [] → Becomes fs ws t (in_mode wants (f ∷ fs))
to_wants {fs = fs} {ws = ws} {t = t} f w k b e = record { becomes = λ g tokens h. record { sound = ((b, g), one_further (stack_took fs) ws (took f) w t tokens e k h) } }

pub to_wants_pattern : {fs : List Frame} {ws : List Written} {t : Token} (f : Frame) (w : Written) → IsToken t w → Fits f (context fs) → took f ≡ ws ++ w ∷ [] → Becomes fs ws t (in_mode wants_pattern (f ∷ fs))
to_wants_pattern {fs = fs} {ws = ws} {t = t} f w k b e = record { becomes = λ g tokens h. record { sound = ((b, g), one_further (stack_took fs) ws (took f) w t tokens e k h) } }

pub to_typing : {fs : List Frame} {ws : List Written} {t : Token} (f : Frame) (w : Written) → IsToken t w → Fits f (context fs) → took f ≡ ws ++ w ∷ [] → Becomes fs ws t (in_mode (typing []) (f ∷ fs))
to_typing {fs = fs} {ws = ws} {t = t} f w k b e = record { becomes = λ g tokens h. record { sound = ((b, g), subst (λ (vs : List Written). AreTokens (tokens ++ t ∷ []) vs) (sym (append-nil (stack_took fs ++ took f))) (one_further (stack_took fs) ws (took f) w t tokens e k h)) } }

pub to_has : {fs : List Frame} {ws : List Written} {t : Token} (e : ExprTree) (w : Written) → IsToken t w → closed ≤ reach e → Binds e (context fs) → spelling e ≡ ws ++ w ∷ [] → Becomes fs ws t (in_mode (has e) fs)
to_has {fs = fs} {ws = ws} {t = t} e w k r b s = record { becomes = λ g tokens h. record { sound = (g, r, b, one_further (stack_took fs) ws (spelling e) w t tokens s k h) } }

pub to_has_pattern : {fs : List Frame} {ws : List Written} {t : Token} (p : PatternTree) (w : Written) → IsToken t w → IsSinglePattern p → IsPattern p → pattern_spelling p ≡ ws ++ w ∷ [] → Becomes fs ws t (in_mode (has_pattern p) fs)
to_has_pattern {fs = fs} {ws = ws} {t = t} p w k r b s = record { becomes = λ g tokens h. record { sound = (g, r, b, one_further (stack_took fs) ws (pattern_spelling p) w t tokens s k h) } }

pub to_awaits : {fs : List Frame} {ws : List Written} {t : Token} (h : Header) → ((tokens : List Token) → AreTokens tokens (stack_took fs ++ ws) → Awaiting h fs (tokens ++ t ∷ [])) → Becomes fs ws t (in_mode (awaits h) fs)
to_awaits h a = record { becomes = λ g tokens k. record { sound = (g, a tokens k) } }

-- a token, and one that is still to come
pub before_that : (fs : List Frame) (ws all : List Written) (w : Written) (v : Word) (t : Token) (tokens : List Token) → all ≡ ws ++ w ∷ word v ∷ [] → IsToken t w → AreTokens tokens (stack_took fs ++ ws) → Before v (tokens ++ t ∷ []) (stack_took fs ++ all)
before_that fs ws all w v t tokens e k h =
    λ u m. one_further (stack_took fs) (ws ++ w ∷ []) all (word v) u (tokens ++ t ∷ []) (e ∙ sym (append_assoc ws (w ∷ []) (word v ∷ []))) m (one_further (stack_took fs) ws (ws ++ w ∷ []) w t tokens refl k h)

-- ---- what ends an expression or a pattern

abbrev pub StopToken : Stop → Token → Type 0
StopToken comma t = IsToken t (word word_is.Comma)
StopToken close_round t = IsToken t (word word_is.CloseRound)
StopToken close_square t = IsToken t (word word_is.CloseSquare)
StopToken close_curly t = IsToken t (word word_is.CloseCurly)
StopToken bar t = IsToken t (word word_is.Bar)
StopToken maps_to t = IsToken t (word word_is.MapsTo)
StopToken ampersand t = IsToken t (word word_is.Ampersand)
StopToken then_stop t = IsToken t (word word_is.Then)
StopToken elseif_stop t = IsToken t (word word_is.Elseif)
StopToken else_stop t = IsToken t (word word_is.Else)
StopToken in_stop t = IsToken t (word word_is.In)
StopToken be_stop t = IsToken t (word word_is.Be)
StopToken colon t = IsToken t (word word_is.Colon)
StopToken arrow t = IsToken t (word word_is.Arrow)
StopToken end_stop t = IsToken t (word word_is.End)
StopToken in_set_stop t = IsToken t (word (word_is.Operator sign_is.InSet))
StopToken equal_stop t = IsToken t (word (word_is.Operator sign_is.Equal))
StopToken no_stop t = Unit {0}

sign-token : (sign : Sign) (place : Place) → StopToken (stop_of_sign sign) (plain (word_is.Operator sign) place)
sign-token sign_is.InSet place = (place, refl)
sign-token sign_is.Equal place = (place, refl)
sign-token _ place = tt

pub stop-token : (w : Word) (place : Place) → StopToken (stop_of w) (plain w place)
stop-token word_is.Comma place = (place, refl)
stop-token word_is.CloseRound place = (place, refl)
stop-token word_is.CloseSquare place = (place, refl)
stop-token word_is.CloseCurly place = (place, refl)
stop-token word_is.Bar place = (place, refl)
stop-token word_is.MapsTo place = (place, refl)
stop-token word_is.Ampersand place = (place, refl)
stop-token word_is.Then place = (place, refl)
stop-token word_is.Elseif place = (place, refl)
stop-token word_is.Else place = (place, refl)
stop-token word_is.In place = (place, refl)
stop-token word_is.Be place = (place, refl)
stop-token word_is.Colon place = (place, refl)
stop-token word_is.Arrow place = (place, refl)
stop-token word_is.End place = (place, refl)
stop-token (word_is.Operator sign) place = sign-token sign place
stop-token _ place = tt

pub at_comma-becomes : (stop : Stop) (fs : List Frame) (ws : List Written) (t : Token) (s : State) → StopToken stop t → (IsToken t (word word_is.Comma) → Becomes fs ws t s) → Becomes fs ws t (at_comma stop s)
at_comma-becomes comma fs ws t s k r = r k
at_comma-becomes _ fs ws t s k r = to_refused

pub at_round-becomes : (stop : Stop) (fs : List Frame) (ws : List Written) (t : Token) (s : State) → StopToken stop t → (IsToken t (word word_is.CloseRound) → Becomes fs ws t s) → Becomes fs ws t (at_round stop s)
at_round-becomes close_round fs ws t s k r = r k
at_round-becomes _ fs ws t s k r = to_refused

pub at_square-becomes : (stop : Stop) (fs : List Frame) (ws : List Written) (t : Token) (s : State) → StopToken stop t → (IsToken t (word word_is.CloseSquare) → Becomes fs ws t s) → Becomes fs ws t (at_square stop s)
at_square-becomes close_square fs ws t s k r = r k
at_square-becomes _ fs ws t s k r = to_refused

pub at_curly-becomes : (stop : Stop) (fs : List Frame) (ws : List Written) (t : Token) (s : State) → StopToken stop t → (IsToken t (word word_is.CloseCurly) → Becomes fs ws t s) → Becomes fs ws t (at_curly stop s)
at_curly-becomes close_curly fs ws t s k r = r k
at_curly-becomes _ fs ws t s k r = to_refused

pub at_maps_to-becomes : (stop : Stop) (fs : List Frame) (ws : List Written) (t : Token) (s : State) → StopToken stop t → (IsToken t (word word_is.MapsTo) → Becomes fs ws t s) → Becomes fs ws t (at_maps_to stop s)
at_maps_to-becomes maps_to fs ws t s k r = r k
at_maps_to-becomes _ fs ws t s k r = to_refused

pub at_then-becomes : (stop : Stop) (fs : List Frame) (ws : List Written) (t : Token) (s : State) → StopToken stop t → (IsToken t (word word_is.Then) → Becomes fs ws t s) → Becomes fs ws t (at_then stop s)
at_then-becomes then_stop fs ws t s k r = r k
at_then-becomes _ fs ws t s k r = to_refused

pub at_in-becomes : (stop : Stop) (fs : List Frame) (ws : List Written) (t : Token) (s : State) → StopToken stop t → (IsToken t (word word_is.In) → Becomes fs ws t s) → Becomes fs ws t (at_in stop s)
at_in-becomes in_stop fs ws t s k r = r k
at_in-becomes _ fs ws t s k r = to_refused

pub at_colon-becomes : (stop : Stop) (fs : List Frame) (ws : List Written) (t : Token) (s : State) → StopToken stop t → (IsToken t (word word_is.Colon) → Becomes fs ws t s) → Becomes fs ws t (at_colon stop s)
at_colon-becomes colon fs ws t s k r = r k
at_colon-becomes _ fs ws t s k r = to_refused

pub at_end-becomes : (stop : Stop) (fs : List Frame) (ws : List Written) (t : Token) (s : State) → StopToken stop t → (IsToken t (word word_is.End) → Becomes fs ws t s) → Becomes fs ws t (at_end stop s)
at_end-becomes end_stop fs ws t s k r = r k
at_end-becomes _ fs ws t s k r = to_refused

pub at_in_set-becomes : (stop : Stop) (fs : List Frame) (ws : List Written) (t : Token) (s : State) → StopToken stop t → (IsToken t (word (word_is.Operator sign_is.InSet)) → Becomes fs ws t s) → Becomes fs ws t (at_in_set stop s)
at_in_set-becomes in_set_stop fs ws t s k r = r k
at_in_set-becomes _ fs ws t s k r = to_refused

pub at_equal-becomes : (stop : Stop) (fs : List Frame) (ws : List Written) (t : Token) (s : State) → StopToken stop t → (IsToken t (word (word_is.Operator sign_is.Equal)) → Becomes fs ws t s) → Becomes fs ws t (at_equal stop s)
at_equal-becomes equal_stop fs ws t s k r = r k
at_equal-becomes _ fs ws t s k r = to_refused
