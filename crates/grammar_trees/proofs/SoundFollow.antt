-- What a token makes of what it follows.
use Rattle.std.proofs.Common.{◌≡◌, ℕ, ℤ, ◌<◌, ◌≤◌, Bool, true, false, nat_lt, if◌then◌else◌, List, [], ◌∷◌, ◌++◌, refl, ap, sym, subst, ◌∙◌, arith, append_assoc, append-nil}
use Rattle.abstract_syntax.specs.Expressions.{ExprTree, named, qualified, old_value, empty_map, history, select, select_of_class, select_part, no_exprs, empty_map_pattern, no_patterns}
use Rattle.grammar_words.specs.Pulls.{left_pull, far_pull, postfix_pull, closed, is_infix, IsInfix}
use Rattle.grammar_trees.specs.Spelling.{names_spelling, spelling}
use Rattle.grammar_trees.specs.Binding.{reach, AreSomeNames, Binds}
use Rattle.grammar_trees.specs.Frames.{Body, Frame, TypeNameFor, Header, State, named_test, class_test, base_class_test, record_of, new_of, applied_to, all_body, some_body, one_body, the_body, let_body, such_body, def_body, else_body, record_like, operand_of, right_of, body, enclosed, items, field_value, pattern_items, made, asked, made_pattern, opens, comma_then, st_then, arrow_then, opens_pattern, type_after, type_rest, qualified_rest, member_of, member_rest, part_of, new_name, counter_opens, counter_name, counter_next, class_opens, class_name, base_class_opens, base_class_name, field_name, field_arrow, empty_map_end, empty_pattern_end, has, awaits, nothing, an_expr}
use Rattle.grammar_trees.specs.Machine.{in_mode, word_pull, pull, with_body, completed, stop_of, taken_by, between, go_on, follow_word, follow_backquote, follow_tilde, follow_plain, follow, named_alone, named_of_class, enter_named, opens_named, await_open, await_comma, await_st, await_arrow, await_maps_to, await_curly, after_type_name, after_counted, awaited_word, name_at, awaited_name, awaited_number, await, end_expr, Stop}
use Rattle.grammar_trees.specs.Trees.{IsTree}
use Rattle.grammar_words.specs.Tokens.{Token, identifier, whole, plain}
use Rattle.grammar_words.specs.Written.{Written, at, word, number, IsToken, AreTokens, at_word}
use Rattle.vdm_kinds.specs.declared.name.Name.{Name}
use Rattle.vdm_kinds.specs.declared.place.Place.{Place}
use Rattle.vdm_kinds.specs.declared.sign.Sign.{Sign}
use Rattle.vdm_kinds.specs.declared.counter.Counter.{Counter}
use Rattle.vdm_kinds.specs.declared.name_at.NameAt.{NameAt}
use Rattle.grammar_words.specs.declared.word.Word.{Word}
use Rattle.std.proofs.lemmas.Bool.Decides.{nat_tests}
use Rattle.std.proofs.Math.Nat.{le-min}
use Rattle.grammar_words.specs.declared.word.Word.TheVariants as word_is
use Rattle.vdm_kinds.specs.declared.sign.Sign.TheVariants as sign_is
use Rattle.grammar_trees.proofs.SoundFrames.{took_body, took, stack_took, context, BodyFits, Fits, StackFits, name_token, Awaiting, sound_in, Sound}
use Rattle.grammar_trees.proofs.SoundBasics.{one_further, to_wants, to_wants_pattern, to_has, to_has_pattern, to_awaits, before_that, stop-token, StopToken, Becomes}
use Rattle.grammar_trees.proofs.SoundLists.{names-spelled, took_names}
use Rattle.grammar_trees.proofs.SoundTaken.{all_closed, taken-becomes}
use Rattle.grammar_trees.proofs.Leading.{stack_pull}

-- ---- forms that begin with single tokens

await_open-sound : (w : Word) (place : Place) (s : State) (tokens : List Token) → (IsToken (plain w place) (word word_is.OpenRound) → Sound s tokens) → Sound (await_open w s) tokens
await_open-sound word_is.OpenRound place s tokens r = r (place, refl)
await_open-sound _ place s tokens r = record { sound = tt }

await_comma-sound : (w : Word) (place : Place) (s : State) (tokens : List Token) → (IsToken (plain w place) (word word_is.Comma) → Sound s tokens) → Sound (await_comma w s) tokens
await_comma-sound word_is.Comma place s tokens r = r (place, refl)
await_comma-sound _ place s tokens r = record { sound = tt }

await_st-sound : (w : Word) (place : Place) (s : State) (tokens : List Token) → (IsToken (plain w place) (word word_is.St) → Sound s tokens) → Sound (await_st w s) tokens
await_st-sound word_is.St place s tokens r = r (place, refl)
await_st-sound _ place s tokens r = record { sound = tt }

await_arrow-sound : (w : Word) (place : Place) (s : State) (tokens : List Token) → (IsToken (plain w place) (word word_is.Arrow) → Sound s tokens) → Sound (await_arrow w s) tokens
await_arrow-sound word_is.Arrow place s tokens r = r (place, refl)
await_arrow-sound _ place s tokens r = record { sound = tt }

await_maps_to-sound : (w : Word) (place : Place) (s : State) (tokens : List Token) → (IsToken (plain w place) (word word_is.MapsTo) → Sound s tokens) → Sound (await_maps_to w s) tokens
await_maps_to-sound word_is.MapsTo place s tokens r = r (place, refl)
await_maps_to-sound _ place s tokens r = record { sound = tt }

await_curly-sound : (w : Word) (place : Place) (s : State) (tokens : List Token) → (IsToken (plain w place) (word word_is.CloseCurly) → Sound s tokens) → Sound (await_curly w s) tokens
await_curly-sound word_is.CloseCurly place s tokens r = r (place, refl)
await_curly-sound _ place s tokens r = record { sound = tt }

-- the frame of a name of a type
enter_named-becomes : (for : TypeNameFor) (name : Name) (place : Place) (fs : List Frame) (t : Token) → IsToken t (word word_is.OpenRound) → Becomes fs (at (name_token for name place) ∷ []) t (enter_named for (named_alone name place) place fs)
enter_named-becomes made name place fs t k = to_wants (items (record_of (named_alone name place)) no_exprs place) (word word_is.OpenRound) k (tt, refl) refl
enter_named-becomes asked name place fs t k = to_wants (enclosed (named_test (named_alone name place)) place) (word word_is.OpenRound) k refl refl
enter_named-becomes made_pattern name place fs t k = to_wants_pattern (pattern_items (record_like (named_alone name place)) no_patterns place) (word word_is.OpenRound) k (tt, refl) refl

after_type_name-sound : (w : Word) (spot : Place) (for : TypeNameFor) (name : Name) (place : Place) (fs : List Frame) (tokens : List Token) → StackFits fs → AreTokens tokens (stack_took fs ++ at (name_token for name place) ∷ []) → Sound (after_type_name w for name place fs) (tokens ++ plain w spot ∷ [])
after_type_name-sound word_is.OpenRound spot for name place fs tokens g h = (enter_named-becomes for name place fs _ (spot, refl)).becomes g tokens h
after_type_name-sound word_is.Backquote spot for name place fs tokens g h =
    (to_awaits (type_rest for name place) (λ ts a. one_further (stack_took fs) _ _ (word word_is.Backquote) _ ts refl (spot, refl) a)).becomes g tokens h
after_type_name-sound _ spot for name place fs tokens g h = record { sound = tt }

opens_named-becomes : (for : TypeNameFor) (class name : Name) (name_place place : Place) (fs : List Frame) → Becomes fs (at (name_token for class place) ∷ word word_is.Backquote ∷ []) (identifier name name_place) (in_mode (awaits (opens_named for (named_of_class class name name_place) place)) fs)
opens_named-becomes made class name name_place place fs =
    to_awaits (opens (items (record_of (named_of_class class name name_place)) no_exprs place)) (λ ts a. ((tt, tt), before_that fs _ _ (at (identifier name name_place)) word_is.OpenRound _ ts refl refl a))
opens_named-becomes asked class name name_place place fs =
    to_awaits (opens (enclosed (named_test (named_of_class class name name_place)) place)) (λ ts a. (tt, before_that fs _ _ (at (identifier name name_place)) word_is.OpenRound _ ts refl refl a))
opens_named-becomes made_pattern class name name_place place fs =
    to_awaits (opens_pattern (pattern_items (record_like (named_of_class class name name_place)) no_patterns place)) (λ ts a. ((tt, tt), before_that fs _ _ (at (identifier name name_place)) word_is.OpenRound _ ts refl refl a))

names-comma : (names : List NameAt) → AreSomeNames names → took_names names ≡ names_spelling names ++ word word_is.Comma ∷ []
names-comma [] h = absurd h
names-comma (first ∷ []) h = refl
names-comma (first ∷ next ∷ names) h = ap (λ (ws : List Written). at (identifier first.name first.place) ∷ word word_is.Comma ∷ ws) (names-comma (next ∷ names) tt)

after_counted-sound : (w : Word) (spot : Place) (counter : Counter) (names : List NameAt) (place : Place) (fs : List Frame) (tokens : List Token) → StackFits fs → AreSomeNames names → AreTokens tokens (stack_took fs ++ at_word (word_is.Counter counter) place ∷ word word_is.OpenRound ∷ names_spelling names) → Sound (after_counted w counter names place fs) (tokens ++ plain w spot ∷ [])
after_counted-sound word_is.Comma spot counter names place fs tokens g s h =
    (to_awaits (counter_name counter names place) (λ ts a. one_further (stack_took fs) _ _ (word word_is.Comma) _ ts (ap (λ (ws : List Written). at_word (word_is.Counter counter) place ∷ word word_is.OpenRound ∷ ws) (names-comma names s)) (spot, refl) a)).becomes g tokens h
after_counted-sound word_is.CloseRound spot counter names place fs tokens g s h = (to_has (history counter names place) (word word_is.CloseRound) (spot, refl) all_closed s refl).becomes g tokens h
after_counted-sound _ spot counter names place fs tokens g s h = record { sound = tt }

awaited_word-sound : (header : Header) (w : Word) (spot : Place) (fs : List Frame) (tokens : List Token) → StackFits fs → Awaiting header fs tokens → Sound (awaited_word header w fs) (tokens ++ plain w spot ∷ [])
awaited_word-sound (opens f) w spot fs tokens g h = await_open-sound w spot _ _ (λ k. record { sound = ((h.0, g), h.1 (plain w spot) k) })
awaited_word-sound (comma_then f) w spot fs tokens g h = await_comma-sound w spot _ _ (λ k. record { sound = ((h.0, g), h.1 (plain w spot) k) })
awaited_word-sound (st_then f) w spot fs tokens g h = await_st-sound w spot _ _ (λ k. record { sound = ((h.0, g), h.1 (plain w spot) k) })
awaited_word-sound (arrow_then f) w spot fs tokens g h = await_arrow-sound w spot _ _ (λ k. record { sound = ((h.0, g), h.1 (plain w spot) k) })
awaited_word-sound (opens_pattern f) w spot fs tokens g h = await_open-sound w spot _ _ (λ k. record { sound = ((h.0, g), h.1 (plain w spot) k) })
awaited_word-sound (type_after for name place) w spot fs tokens g h = after_type_name-sound w spot for name place fs tokens g h
awaited_word-sound (counter_opens counter place) w spot fs tokens g h =
    await_open-sound w spot _ _ (λ k. (to_awaits (counter_name counter [] place) (λ ts a. one_further (stack_took fs) _ _ (word word_is.OpenRound) _ ts refl k a)).becomes g tokens h)
awaited_word-sound (counter_next counter names place) w spot fs tokens g h = after_counted-sound w spot counter names place fs tokens g h.0 h.1
awaited_word-sound (class_opens place) w spot fs tokens g h =
    await_open-sound w spot _ _ (λ k. (to_awaits (class_name place) (λ ts a. one_further (stack_took fs) _ _ (word word_is.OpenRound) _ ts refl k a)).becomes g tokens h)
awaited_word-sound (base_class_opens place) w spot fs tokens g h =
    await_open-sound w spot _ _ (λ k. (to_awaits (base_class_name place) (λ ts a. one_further (stack_took fs) _ _ (word word_is.OpenRound) _ ts refl k a)).becomes g tokens h)
awaited_word-sound (field_arrow e fields name name_place place) w spot fs tokens g h =
    await_maps_to-sound w spot _ _ (λ k. (to_wants (field_value e fields name name_place place) (word word_is.MapsTo) k (h.0, h.1) (simp append_assoc refl)).becomes g tokens h.2)
awaited_word-sound (empty_map_end place) w spot fs tokens g h = await_curly-sound w spot _ _ (λ k. (to_has (empty_map place) (word word_is.CloseCurly) k all_closed tt refl).becomes g tokens h)
awaited_word-sound (empty_pattern_end place) w spot fs tokens g h = await_curly-sound w spot _ _ (λ k. (to_has_pattern (empty_map_pattern place) (word word_is.CloseCurly) k tt tt refl).becomes g tokens h)
awaited_word-sound _ w spot fs tokens g h = record { sound = tt }

are-some-names : (names : List NameAt) (name : NameAt) → AreSomeNames (names ++ name ∷ [])
are-some-names [] name = tt
are-some-names (first ∷ names) name = tt

awaited_name-sound : (header : Header) (name : Name) (spot : Place) (fs : List Frame) (tokens : List Token) → StackFits fs → Awaiting header fs tokens → Sound (awaited_name header name spot fs) (tokens ++ identifier name spot ∷ [])
awaited_name-sound (type_rest for class place) name spot fs tokens g h = (opens_named-becomes for class name spot place fs).becomes g tokens h
awaited_name-sound (qualified_rest class place) name spot fs tokens g h = (to_has (qualified class name spot place) (at (identifier name spot)) refl all_closed tt refl).becomes g tokens h
awaited_name-sound (member_of e place) name spot fs tokens g h = (to_has (select e name spot place) (at (identifier name spot)) refl all_closed h.0 (simp append_assoc refl)).becomes g tokens h.1
awaited_name-sound (member_rest e class class_place place) name spot fs tokens g h =
    (to_has (select_of_class e class class_place name spot place) (at (identifier name spot)) refl all_closed h.0 (simp append_assoc refl)).becomes g tokens h.1
awaited_name-sound (new_name place) name spot fs tokens g h =
    (to_awaits (opens (items (new_of name spot) no_exprs place)) (λ ts a. ((tt, tt), before_that fs _ _ (at (identifier name spot)) word_is.OpenRound _ ts refl refl a))).becomes g tokens h
awaited_name-sound (counter_name counter names place) name spot fs tokens g h =
    (to_awaits (counter_next counter (names ++ name_at name spot ∷ []) place) (λ ts a. (
      are-some-names names (name_at name spot),
      one_further (stack_took fs) _ _ (at (identifier name spot)) _ ts
          (ap (λ (ws : List Written). at_word (word_is.Counter counter) place ∷ word word_is.OpenRound ∷ ws) (names-spelled names (name_at name spot))) refl a,
    ))).becomes g tokens h
awaited_name-sound (class_name place) name spot fs tokens g h =
    (to_awaits (comma_then (enclosed (class_test name spot) place)) (λ ts a. (tt, before_that fs _ _ (at (identifier name spot)) word_is.Comma _ ts refl refl a))).becomes g tokens h
awaited_name-sound (base_class_name place) name spot fs tokens g h =
    (to_awaits (comma_then (enclosed (base_class_test name spot) place)) (λ ts a. (tt, before_that fs _ _ (at (identifier name spot)) word_is.Comma _ ts refl refl a))).becomes g tokens h
awaited_name-sound (field_name e fields place) name spot fs tokens g h =
    (to_awaits (field_arrow e fields name spot place) (λ ts a. (h.0, h.1, one_further (stack_took fs) _ _ (at (identifier name spot)) _ ts (simp append_assoc refl) refl a))).becomes g tokens h.2
awaited_name-sound _ name spot fs tokens g h = record { sound = tt }

-- a whole literal is written at any place
awaited_number-sound : (header : Header) (n : ℤ) (spot : Place) (fs : List Frame) (tokens : List Token) → StackFits fs → Awaiting header fs tokens → Sound (awaited_number header n fs) (tokens ++ whole n spot ∷ [])
awaited_number-sound (part_of e place) n spot fs tokens g h = (to_has (select_part e n place) (number n) (spot, refl) all_closed h.0 (simp append_assoc refl)).becomes g tokens h.1
awaited_number-sound _ n spot fs tokens g h = record { sound = tt }

pub await-sound : (header : Header) (t : Token) (fs : List Frame) (tokens : List Token) → StackFits fs → Awaiting header fs tokens → Sound (await header t fs) (tokens ++ t ∷ [])
await-sound header (identifier name place) fs tokens g h = awaited_name-sound header name place fs tokens g h
await-sound header (whole n place) fs tokens g h = awaited_number-sound header n place fs tokens g h
await-sound header (plain w place) fs tokens g h = awaited_word-sound header w place fs tokens g h
await-sound header _ fs tokens g h = record { sound = tt }

-- ---- behind an expression

left_pull-positive : (sign : Sign) → IsInfix sign → 1 ≤ left_pull sign
left_pull-positive sign_is.Equivalent h = omega arith
left_pull-positive sign_is.Implies h = omega arith
left_pull-positive sign_is.Or h = omega arith
left_pull-positive sign_is.And h = omega arith
left_pull-positive sign_is.Not h = absurd (cc)
left_pull-positive sign_is.Equal h = omega arith
left_pull-positive sign_is.NotEqual h = omega arith
left_pull-positive sign_is.Less h = omega arith
left_pull-positive sign_is.LessEqual h = omega arith
left_pull-positive sign_is.Greater h = omega arith
left_pull-positive sign_is.GreaterEqual h = omega arith
left_pull-positive sign_is.Subset h = omega arith
left_pull-positive sign_is.ProperSubset h = omega arith
left_pull-positive sign_is.InSet h = omega arith
left_pull-positive sign_is.NotInSet h = omega arith
left_pull-positive sign_is.Plus h = omega arith
left_pull-positive sign_is.Minus h = omega arith
left_pull-positive sign_is.Union h = omega arith
left_pull-positive sign_is.Difference h = omega arith
left_pull-positive sign_is.MapUnion h = omega arith
left_pull-positive sign_is.Override h = omega arith
left_pull-positive sign_is.Concatenation h = omega arith
left_pull-positive sign_is.Times h = omega arith
left_pull-positive sign_is.Div h = omega arith
left_pull-positive sign_is.Rem h = omega arith
left_pull-positive sign_is.Mod h = omega arith
left_pull-positive sign_is.Inter h = omega arith
left_pull-positive sign_is.Inverse h = absurd (cc)
left_pull-positive sign_is.DomainRestriction h = omega arith
left_pull-positive sign_is.DomainRemoval h = omega arith
left_pull-positive sign_is.RangeRestriction h = omega arith
left_pull-positive sign_is.RangeRemoval h = omega arith
left_pull-positive sign_is.Positive h = absurd (cc)
left_pull-positive sign_is.Negative h = absurd (cc)
left_pull-positive sign_is.Absolute h = absurd (cc)
left_pull-positive sign_is.Card h = absurd (cc)
left_pull-positive sign_is.PowerSet h = absurd (cc)
left_pull-positive sign_is.DistributedUnion h = absurd (cc)
left_pull-positive sign_is.DistributedInter h = absurd (cc)
left_pull-positive sign_is.Length h = absurd (cc)
left_pull-positive sign_is.Head h = absurd (cc)
left_pull-positive sign_is.Tail h = absurd (cc)
left_pull-positive sign_is.Indices h = absurd (cc)
left_pull-positive sign_is.Elements h = absurd (cc)
left_pull-positive sign_is.DistributedConcatenation h = absurd (cc)
left_pull-positive sign_is.Domain h = absurd (cc)
left_pull-positive sign_is.Range h = absurd (cc)
left_pull-positive sign_is.Merge h = absurd (cc)
left_pull-positive sign_is.Composition h = omega arith
left_pull-positive sign_is.Exponent h = omega arith

left_pull-below : (sign : Sign) → left_pull sign < closed
left_pull-below sign_is.Equivalent = omega arith
left_pull-below sign_is.Implies = omega arith
left_pull-below sign_is.Or = omega arith
left_pull-below sign_is.And = omega arith
left_pull-below sign_is.Not = omega arith
left_pull-below sign_is.Equal = omega arith
left_pull-below sign_is.NotEqual = omega arith
left_pull-below sign_is.Less = omega arith
left_pull-below sign_is.LessEqual = omega arith
left_pull-below sign_is.Greater = omega arith
left_pull-below sign_is.GreaterEqual = omega arith
left_pull-below sign_is.Subset = omega arith
left_pull-below sign_is.ProperSubset = omega arith
left_pull-below sign_is.InSet = omega arith
left_pull-below sign_is.NotInSet = omega arith
left_pull-below sign_is.Plus = omega arith
left_pull-below sign_is.Minus = omega arith
left_pull-below sign_is.Union = omega arith
left_pull-below sign_is.Difference = omega arith
left_pull-below sign_is.MapUnion = omega arith
left_pull-below sign_is.Override = omega arith
left_pull-below sign_is.Concatenation = omega arith
left_pull-below sign_is.Times = omega arith
left_pull-below sign_is.Div = omega arith
left_pull-below sign_is.Rem = omega arith
left_pull-below sign_is.Mod = omega arith
left_pull-below sign_is.Inter = omega arith
left_pull-below sign_is.Inverse = omega arith
left_pull-below sign_is.DomainRestriction = omega arith
left_pull-below sign_is.DomainRemoval = omega arith
left_pull-below sign_is.RangeRestriction = omega arith
left_pull-below sign_is.RangeRemoval = omega arith
left_pull-below sign_is.Positive = omega arith
left_pull-below sign_is.Negative = omega arith
left_pull-below sign_is.Absolute = omega arith
left_pull-below sign_is.Card = omega arith
left_pull-below sign_is.PowerSet = omega arith
left_pull-below sign_is.DistributedUnion = omega arith
left_pull-below sign_is.DistributedInter = omega arith
left_pull-below sign_is.Length = omega arith
left_pull-below sign_is.Head = omega arith
left_pull-below sign_is.Tail = omega arith
left_pull-below sign_is.Indices = omega arith
left_pull-below sign_is.Elements = omega arith
left_pull-below sign_is.DistributedConcatenation = omega arith
left_pull-below sign_is.Domain = omega arith
left_pull-below sign_is.Range = omega arith
left_pull-below sign_is.Merge = omega arith
left_pull-below sign_is.Composition = omega arith
left_pull-below sign_is.Exponent = omega arith

word_pull-below : (w : Word) → word_pull w < closed
word_pull-below (word_is.Operator sign) = left_pull-below sign
word_pull-below word_is.OpenRound = omega arith
word_pull-below word_is.Dot = omega arith
word_pull-below word_is.DotNumber = omega arith
word_pull-below _ = omega arith

context-most : (fs : List Frame) (n : ℕ) → stack_pull fs ≤ n → 1 ≤ n → context fs ≤ n
context-most [] n h k = k
context-most (operand_of sign place ∷ fs) n h k = h
context-most (right_of left sign place ∷ fs) n h k = h
context-most (_ ∷ fs) n h k = k

-- a frame that pulls more is complete
pub record Completes (f : Frame) (e : ExprTree) (m n : ℕ) : Type 0 where
  pub binds : Binds (completed f e) m
  pub reaches : n < reach (completed f e)
  pub same : spelling (completed f e) ≡ took f ++ spelling e

with_body-binds : (b : Body) (e : ExprTree) (place : Place) (m : ℕ) → BodyFits b → Binds e far_pull → Binds (with_body b e place) m
with_body-binds (all_body bs) e place m h b = (h.0, h.1, b)
with_body-binds (some_body bs) e place m h b = (h.0, h.1, b)
with_body-binds (one_body d) e place m h b = (h, b)
with_body-binds (the_body d) e place m h b = (h.0, h.1, b)
with_body-binds (let_body ds) e place m h b = (h.0, h.1, b)
with_body-binds (such_body d such) e place m h b = (h.0, h.1, b)
with_body-binds (def_body p v) e place m h b = (h.0, h.1, b)
with_body-binds (else_body c v bs) e place m h b = (h.0, h.1, h.2, b)

with_body-reach : (b : Body) (e : ExprTree) (place : Place) → far_pull ≤ reach (with_body b e place)
with_body-reach (all_body bs) e place = omega arith
with_body-reach (some_body bs) e place = omega arith
with_body-reach (one_body d) e place = omega arith
with_body-reach (the_body d) e place = omega arith
with_body-reach (let_body ds) e place = omega arith
with_body-reach (such_body d such) e place = omega arith
with_body-reach (def_body p v) e place = omega arith
with_body-reach (else_body c v bs) e place = omega arith

with_body-spelled : (b : Body) (e : ExprTree) (place : Place) → spelling (with_body b e place) ≡ took_body b place ++ spelling e
with_body-spelled (all_body bs) e place = simp append_assoc refl
with_body-spelled (some_body bs) e place = simp append_assoc refl
with_body-spelled (one_body d) e place = simp append_assoc refl
with_body-spelled (the_body d) e place = simp append_assoc refl
with_body-spelled (let_body ds) e place = simp append_assoc refl
with_body-spelled (such_body d such) e place = simp append_assoc refl
with_body-spelled (def_body p v) e place = simp append_assoc refl
with_body-spelled (else_body c v bs) e place = simp append_assoc refl

frame-completes : (f : Frame) (e : ExprTree) (fs : List Frame) (n : ℕ) → n < pull f → Fits f (context fs) → Binds e (context (f ∷ fs)) → n < reach e → Completes f e (context fs) n
frame-completes (operand_of sign place) e fs n p h b r = record { binds = (h, b); reaches = le-min p r; same = refl }
frame-completes (right_of left sign place) e fs n p h b r = record { binds = (h.0, h.1, h.2, h.3, b); reaches = le-min p r; same = simp append_assoc refl }
frame-completes (body d place) e fs n p h b r =
    let k = with_body-reach d e place in
    record { binds = with_body-binds d e place (context fs) h b; reaches = omega arith; same = with_body-spelled d e place }
frame-completes _ e fs n p h b r = absurd (omega arith)

between-sound : (b : Bool) (e : ExprTree) (sign : Sign) (place : Place) (fs : List Frame) (tokens : List Token) → is_infix sign ≡ b → StackFits fs → Binds e (context fs) → left_pull sign < reach e → stack_pull fs ≤ left_pull sign → AreTokens tokens (stack_took fs ++ spelling e) → Sound (between b e sign place fs) (tokens ++ plain (word_is.Operator sign) place ∷ [])
between-sound true e sign place fs tokens i g b r p h =
    (to_wants (right_of e sign place) (at_word (word_is.Operator sign) place) refl (i, b, context-most fs (left_pull sign) p (left_pull-positive sign i), r) refl).becomes g tokens h
between-sound false e sign place fs tokens i g b r p h = record { sound = tt }

taken_by-sound : (fs : List Frame) (e : ExprTree) (stop : Stop) (t : Token) (tokens : List Token) → StopToken stop t → StackFits fs → Binds e (context fs) → AreTokens tokens (stack_took fs ++ spelling e) → Sound (taken_by fs e stop) (tokens ++ t ∷ [])
taken_by-sound [] e stop t tokens k g b h = record { sound = tt }
taken_by-sound (f ∷ fs) e stop t tokens k g b h =
    (taken-becomes f e stop fs t k g.0 b).becomes g.1 tokens (subst (λ (ws : List Written). AreTokens tokens ws) (append_assoc (stack_took fs) (took f) (spelling e)) h)

go_on-sound : (w : Word) (place : Place) (e : ExprTree) (fs : List Frame) (tokens : List Token) → StackFits fs → Binds e (context fs) → word_pull w < reach e → stack_pull fs ≤ word_pull w → AreTokens tokens (stack_took fs ++ spelling e) → Sound (go_on w place e fs) (tokens ++ plain w place ∷ [])
go_on-sound (word_is.Operator sign) place e fs tokens g b r p h = between-sound (is_infix sign) e sign place fs tokens refl g b r p h
go_on-sound word_is.OpenRound place e fs tokens g b r p h =
    (to_wants (items (applied_to e) no_exprs place) (at_word word_is.OpenRound place) refl (tt, (b, context-most fs postfix_pull p (omega arith), r)) (append-nil (spelling e ++ at_word word_is.OpenRound place ∷ []))).becomes g tokens h
go_on-sound word_is.Dot place e fs tokens g b r p h =
    (to_awaits (member_of e place) (λ ts a. ((b, context-most fs postfix_pull p (omega arith), r), one_further (stack_took fs) _ _ (at_word word_is.Dot place) _ ts refl refl a))).becomes g tokens h
go_on-sound word_is.DotNumber place e fs tokens g b r p h =
    (to_awaits (part_of e place) (λ ts a. ((b, context-most fs postfix_pull p (omega arith), r), one_further (stack_took fs) _ _ (at_word word_is.DotNumber place) _ ts refl refl a))).becomes g tokens h
go_on-sound w place e fs tokens g b r p h = taken_by-sound fs e (stop_of w) (plain w place) tokens (stop-token w place) g b h

if-not-less : (a b : ℕ) → nat_lt a b ≡ false → b ≤ a
if-not-less a b h = grind (arith, nat_tests)

if-less : (a b : ℕ) → nat_lt a b ≡ true → a < b
if-less a b h = grind (arith, nat_tests)

follow_word-sound : (w : Word) (place : Place) (e : ExprTree) (fs : List Frame) (tokens : List Token) → StackFits fs → Binds e (context fs) → word_pull w < reach e → AreTokens tokens (stack_took fs ++ spelling e) → Sound (follow_word w place e fs) (tokens ++ plain w place ∷ [])
follow_word-sound w place e [] tokens g b r h = go_on-sound w place e [] tokens g b r (omega arith) h
follow_word-sound w place e (f ∷ fs) tokens g b r h =
    by (nat_lt (word_pull w) (pull f)) refl (λ p. let c = frame-completes f e fs (word_pull w) (if-less (word_pull w) (pull f) p) g.0 b r in
    follow_word-sound w place (completed f e) fs tokens g.1 c.binds c.reaches
    (subst (λ (ws : List Written). AreTokens tokens ws) (append_assoc (stack_took fs) (took f) (spelling e) ∙ ap (λ (ws : List Written). stack_took fs ++ ws) (sym c.same)) h))
  where
    by : (c : Bool) → nat_lt (word_pull w) (pull f) ≡ c → (nat_lt (word_pull w) (pull f) ≡ true → Sound (follow_word w place (completed f e) fs) (tokens ++ plain w place ∷ [])) → Sound (if c then follow_word w place (completed f e) fs else go_on w place e (f ∷ fs)) (tokens ++ plain w place ∷ [])
    by true q x = x q
    by false q x = go_on-sound w place e (f ∷ fs) tokens g b r (if-not-less (word_pull w) (pull f) q) h

follow_backquote-sound : (e : ExprTree) (place : Place) (fs : List Frame) (tokens : List Token) → sound_in (has e) fs tokens → Sound (follow_backquote e fs) (tokens ++ plain word_is.Backquote place ∷ [])
follow_backquote-sound (named name at_name) place fs tokens h =
    (to_awaits (qualified_rest name at_name) (λ ts a. one_further (stack_took fs) _ _ (word word_is.Backquote) _ ts refl (place, refl) a)).becomes h.0 tokens h.3
follow_backquote-sound (select e name name_place at_dot) place fs tokens h =
    (to_awaits (member_rest e name name_place at_dot) (λ ts a. (h.2, one_further (stack_took fs) _ _ (word word_is.Backquote) _ ts (simp append_assoc refl) (place, refl) a))).becomes h.0 tokens h.3
follow_backquote-sound _ place fs tokens h = record { sound = tt }

follow_tilde-sound : (e : ExprTree) (place : Place) (fs : List Frame) (tokens : List Token) → sound_in (has e) fs tokens → Sound (follow_tilde e fs) (tokens ++ plain word_is.Tilde place ∷ [])
follow_tilde-sound (named name at_name) place fs tokens h = (to_has (old_value name at_name) (word word_is.Tilde) (place, refl) all_closed tt refl).becomes h.0 tokens h.3
follow_tilde-sound _ place fs tokens h = record { sound = tt }

follow_plain-sound : (w : Word) (place : Place) (e : ExprTree) (fs : List Frame) (tokens : List Token) → sound_in (has e) fs tokens → Sound (follow_plain w place e fs) (tokens ++ plain w place ∷ [])
follow_plain-sound word_is.Backquote place e fs tokens h = follow_backquote-sound e place fs tokens h
follow_plain-sound word_is.Tilde place e fs tokens h = follow_tilde-sound e place fs tokens h
follow_plain-sound w place e fs tokens h = follow_word-sound w place e fs tokens h.0 h.2 (below-reach w e h.1) h.3
  where
    below-reach : (v : Word) (d : ExprTree) → closed ≤ reach d → word_pull v < reach d
    below-reach v d k = let p = word_pull-below v in omega arith

pub follow-sound : (t : Token) (e : ExprTree) (fs : List Frame) (tokens : List Token) → sound_in (has e) fs tokens → Sound (follow t e fs) (tokens ++ t ∷ [])
follow-sound (plain w place) e fs tokens h = follow_plain-sound w place e fs tokens h
follow-sound _ e fs tokens h = record { sound = tt }

-- at the end
pub end_expr-sound : (e : ExprTree) (fs : List Frame) (tokens : List Token) (tree : ExprTree) → StackFits fs → Binds e (context fs) → 0 < reach e → AreTokens tokens (stack_took fs ++ spelling e) → end_expr e fs ≡ an_expr tree → IsTree tokens tree
end_expr-sound e [] tokens tree g b r h q = subst (λ (x : ExprTree). IsTree tokens x) (same e tree q) (record { spelled = h; binds = b })
  where
    same : (a c : ExprTree) → an_expr a ≡ an_expr c → a ≡ c
    same a c k = cc
end_expr-sound e (f ∷ fs) tokens tree g b r h q =
    by (nat_lt 0 (pull f)) refl q (λ p k. let c = frame-completes f e fs 0 (if-less 0 (pull f) p) g.0 b r in
    end_expr-sound (completed f e) fs tokens tree g.1 c.binds c.reaches
    (subst (λ (ws : List Written). AreTokens tokens ws) (append_assoc (stack_took fs) (took f) (spelling e) ∙ ap (λ (ws : List Written). stack_took fs ++ ws) (sym c.same)) h) k)
  where
    by : (c : Bool) → nat_lt 0 (pull f) ≡ c → (if c then end_expr (completed f e) fs else nothing) ≡ an_expr tree → (nat_lt 0 (pull f) ≡ true → end_expr (completed f e) fs ≡ an_expr tree → IsTree tokens tree) → IsTree tokens tree
    by true p k x = x p k
    by false p k x = absurd (cc)
