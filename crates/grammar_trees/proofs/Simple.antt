-- Names, literals, words, operators and forms of a few parts are read.
use Rattle.std.proofs.Common.{◌≡◌, ℕ, ℤ, true, false, List, [], ◌∷◌, ◌++◌, Option, Some, None, refl, ap, sym, subst, append_assoc}
use Rattle.abstract_syntax.specs.Expressions.{ExprTree, literal, named, qualified, old_value, self_object, current_time, undefined, result_value, bracketed, prefixed, joined, set_range, empty_map, make_token, is_of_named, is_of_basic, is_of_class, is_of_base_class, same_class, same_base_class, history, subsequence, select, select_of_class, select_part}
use Rattle.grammar_words.specs.Pulls.{right_pull, closed, IsPrefix, prefix_word}
use Rattle.type_reading.specs.TypeSpelling.{literal_token, class_and_name, type_name_spelling, alone_at, IsTypeNameAt}
use Rattle.grammar_trees.specs.Spelling.{names_spelling}
use Rattle.grammar_trees.specs.Binding.{reach, AreSomeNames}
use Rattle.grammar_trees.specs.Frames.{Frame, TypeNameFor, State, operand_of, right_of, made, asked, made_pattern, type_after, counter_name, wants, has, awaits}
use Rattle.grammar_trees.specs.Machine.{in_mode, want_word, want, named_of_class, enter_named, opens_named, awaited_word, TypeReader, step}
use Rattle.grammar_words.specs.Tokens.{Token, identifier, is_named, plain}
use Rattle.grammar_words.specs.Written.{Written, word}
use Rattle.abstract_syntax.specs.Literals.{LiteralTree, whole_literal, character_literal, text_literal, quote_literal, boolean_literal, nil_literal}
use Rattle.vdm_kinds.specs.declared.name.Name.{Name}
use Rattle.vdm_kinds.specs.declared.place.Place.{Place}
use Rattle.vdm_kinds.specs.declared.sign.Sign.{Sign}
use Rattle.vdm_kinds.specs.declared.counter.Counter.{Counter}
use Rattle.vdm_kinds.specs.declared.basic_type.BasicType.{BasicType}
use Rattle.vdm_kinds.specs.declared.name_at.NameAt.{NameAt}
use Rattle.vdm_kinds.specs.declared.name_at.TypeName.{TypeName}
use Rattle.std.proofs.Math.Nat.{min-le_left, min-le_right}
use Rattle.grammar_words.specs.declared.word.Word.TheVariants as word_is
use Rattle.vdm_kinds.specs.declared.sign.Sign.TheVariants as sign_is
use Rattle.grammar_trees.proofs.Leading.{nothing_more, at_token, at_any, below_one, small, part, before_word, last_operand, at_number, Leads, Taken}

-- ---- names, literals and words

want_literal : (value : LiteralTree) (place : Place) (fs : List Frame) → want (literal_token value place) fs ≡ in_mode (has (literal value place)) fs
want_literal (whole_literal n) place fs = refl
want_literal (character_literal c) place fs = refl
want_literal (text_literal characters) place fs = refl
want_literal (quote_literal name) place fs = refl
want_literal (boolean_literal true) place fs = refl
want_literal (boolean_literal false) place fs = refl
want_literal nil_literal place fs = refl

pub literal-taken : (types : TypeReader) (value : LiteralTree) (place : Place) → Taken types (literal value place)
literal-taken types value place = record { taken = λ m fs b p. at_token (literal_token value place) (want_literal value place fs) nothing_more }

pub named-taken : (types : TypeReader) (name : Name) (place : Place) → Taken types (named name place)
named-taken types name place = record { taken = λ m fs b p. at_token (identifier name place) refl nothing_more }

pub qualified-taken : (types : TypeReader) (class name : Name) (name_place place : Place) → Taken types (qualified class name name_place place)
qualified-taken types class name name_place place =
    record { taken = λ m fs b p. at_token (identifier class place) refl (at_any word_is.Backquote (λ spot. refl) (at_token (identifier name name_place) refl nothing_more)) }

pub old_value-taken : (types : TypeReader) (name : Name) (place : Place) → Taken types (old_value name place)
old_value-taken types name place = record { taken = λ m fs b p. at_token (identifier name place) refl (at_any word_is.Tilde (λ spot. refl) nothing_more) }

pub self_object-taken : (types : TypeReader) (place : Place) → Taken types (self_object place)
self_object-taken types place = record { taken = λ m fs b p. at_token (plain word_is.SelfWord place) refl nothing_more }

pub bracketed-taken : (types : TypeReader) (inner : ExprTree) (place : Place) → Taken types inner → Taken types (bracketed inner place)
bracketed-taken types inner place t =
    record { taken = λ m fs b p. at_token (plain word_is.OpenRound place) refl (part inner word_is.CloseRound t b below_one small (λ spot. refl) nothing_more) }

-- ---- operators

want_prefix : (sign : Sign) (place : Place) (fs : List Frame) → IsPrefix sign → want_word (prefix_word sign) place fs ≡ in_mode wants (operand_of sign place ∷ fs)
want_prefix sign_is.Not place fs h = refl
want_prefix sign_is.Inverse place fs h = refl
want_prefix sign_is.Positive place fs h = refl
want_prefix sign_is.Negative place fs h = refl
want_prefix sign_is.Absolute place fs h = refl
want_prefix sign_is.Card place fs h = refl
want_prefix sign_is.PowerSet place fs h = refl
want_prefix sign_is.DistributedUnion place fs h = refl
want_prefix sign_is.DistributedInter place fs h = refl
want_prefix sign_is.Length place fs h = refl
want_prefix sign_is.Head place fs h = refl
want_prefix sign_is.Tail place fs h = refl
want_prefix sign_is.Indices place fs h = refl
want_prefix sign_is.Elements place fs h = refl
want_prefix sign_is.DistributedConcatenation place fs h = refl
want_prefix sign_is.Domain place fs h = refl
want_prefix sign_is.Range place fs h = refl
want_prefix sign_is.Merge place fs h = refl
want_prefix _ place fs h = absurd (cc)

pub prefixed-taken : (types : TypeReader) (sign : Sign) (operand : ExprTree) (place : Place) → Taken types operand → Taken types (prefixed sign operand place)
prefixed-taken types sign operand place t =
    record {
      taken = λ m fs b p. at_token (plain (prefix_word sign) place) (want_prefix sign place fs b.0)
          (last_operand operand (operand_of sign place) t b.1 (min-le_right (right_pull sign) (reach operand)) (min-le_left (right_pull sign) (reach operand)));
    }

pub joined-taken : (types : TypeReader) (left : ExprTree) (sign : Sign) (right : ExprTree) (place : Place) → Taken types left → Taken types right → Taken types (joined left sign right place)
joined-taken types left sign right place t u =
    record {
      taken = λ m fs b p. before_word m left (word_is.Operator sign) place t b.1 p b.2 b.3 (rw (b.0) refl)
          (last_operand right (right_of left sign place) u b.4 (min-le_right (right_pull sign) (reach right)) (min-le_left (right_pull sign) (reach right)));
    }

pub set_range-taken : (types : TypeReader) (first last : ExprTree) (place : Place) → Taken types first → Taken types last → Taken types (set_range first last place)
set_range-taken types first last place t u =
    record {
      taken = λ m fs b p. at_token (plain word_is.OpenCurly place) refl
          (part first word_is.Comma t b.0 below_one small (λ spot. refl)
          (at_any word_is.Dots (λ spot. refl) (at_any word_is.Comma (λ spot. refl)
          (part last word_is.CloseCurly u b.1 below_one small (λ spot. refl) nothing_more))));
    }

pub current_time-taken : (types : TypeReader) (place : Place) → Taken types (current_time place)
current_time-taken types place = record { taken = λ m fs b p. at_token (plain word_is.Time place) refl nothing_more }

pub undefined-taken : (types : TypeReader) (place : Place) → Taken types (undefined place)
undefined-taken types place = record { taken = λ m fs b p. at_token (plain word_is.Undefined place) refl nothing_more }

pub result_value-taken : (types : TypeReader) (place : Place) → Taken types (result_value place)
result_value-taken types place = record { taken = λ m fs b p. at_token (plain word_is.Result place) refl nothing_more }

pub empty_map-taken : (types : TypeReader) (place : Place) → Taken types (empty_map place)
empty_map-taken types place =
    record { taken = λ m fs b p. at_token (plain word_is.OpenCurly place) refl (at_any word_is.MapsTo (λ spot. refl) (at_any word_is.CloseCurly (λ spot. refl) nothing_more)) }

-- ---- what stands in brackets behind a word

pub make_token-taken : (types : TypeReader) (inner : ExprTree) (place : Place) → Taken types inner → Taken types (make_token inner place)
make_token-taken types inner place t =
    record { taken = λ m fs b p. at_token (plain word_is.MakeToken place) refl (at_any word_is.OpenRound (λ spot. refl) (part inner word_is.CloseRound t b below_one small (λ spot. refl) nothing_more)) }

pub is_of_basic-taken : (types : TypeReader) (basic : BasicType) (inner : ExprTree) (place : Place) → Taken types inner → Taken types (is_of_basic basic inner place)
is_of_basic-taken types basic inner place t =
    record { taken = λ m fs b p. at_token (plain (word_is.IsBasic basic) place) refl (at_any word_is.OpenRound (λ spot. refl) (part inner word_is.CloseRound t b below_one small (λ spot. refl) nothing_more)) }

pub is_of_class-taken : (types : TypeReader) (class : Name) (class_place : Place) (inner : ExprTree) (place : Place) → Taken types inner → Taken types (is_of_class class class_place inner place)
is_of_class-taken types class class_place inner place t =
    record {
      taken = λ m fs b p. at_token (plain word_is.IsOfClass place) refl (at_any word_is.OpenRound (λ spot. refl) (at_token (identifier class class_place) refl
          (at_any word_is.Comma (λ spot. refl) (part inner word_is.CloseRound t b below_one small (λ spot. refl) nothing_more))));
    }

pub is_of_base_class-taken : (types : TypeReader) (class : Name) (class_place : Place) (inner : ExprTree) (place : Place) → Taken types inner → Taken types (is_of_base_class class class_place inner place)
is_of_base_class-taken types class class_place inner place t =
    record {
      taken = λ m fs b p. at_token (plain word_is.IsOfBaseClass place) refl (at_any word_is.OpenRound (λ spot. refl) (at_token (identifier class class_place) refl
          (at_any word_is.Comma (λ spot. refl) (part inner word_is.CloseRound t b below_one small (λ spot. refl) nothing_more))));
    }

pub same_class-taken : (types : TypeReader) (left right : ExprTree) (place : Place) → Taken types left → Taken types right → Taken types (same_class left right place)
same_class-taken types left right place t u =
    record {
      taken = λ m fs b p. at_token (plain word_is.SameClass place) refl (at_any word_is.OpenRound (λ spot. refl)
          (part left word_is.Comma t b.0 below_one small (λ spot. refl) (part right word_is.CloseRound u b.1 below_one small (λ spot. refl) nothing_more)));
    }

pub same_base_class-taken : (types : TypeReader) (left right : ExprTree) (place : Place) → Taken types left → Taken types right → Taken types (same_base_class left right place)
same_base_class-taken types left right place t u =
    record {
      taken = λ m fs b p. at_token (plain word_is.SameBaseClass place) refl (at_any word_is.OpenRound (λ spot. refl)
          (part left word_is.Comma t b.0 below_one small (λ spot. refl) (part right word_is.CloseRound u b.1 below_one small (λ spot. refl) nothing_more)));
    }

-- ---- names of types

enters_named : (for : TypeNameFor) (type_name : TypeName) (place : Place) (fs : List Frame) → awaited_word (opens_named for type_name place) word_is.OpenRound fs ≡ enter_named for type_name place fs
enters_named made type_name place fs = refl
enters_named asked type_name place fs = refl
enters_named made_pattern type_name place fs = refl

named-leads : (types : TypeReader) (n : ℕ) (token : Name → Place → Token) (for : TypeNameFor) (class : Option Name) (name : Name) (name_place place : Place) (fs : List Frame) (s after : State) (ws : List Written) → ((first : Name) → step types s (token first place) ≡ in_mode (awaits (type_after for first place)) fs) → alone_at class name_place place → Leads types n ws (enter_named for (record { class = class; name = name; name_place = name_place }) place fs) after → Leads types n (class_and_name token class name name_place place ++ word word_is.OpenRound ∷ ws) s after
named-leads types n token for None name name_place place fs s after ws e h r =
    at_token (token name place) (e name) (at_any word_is.OpenRound (λ spot. ap (λ (q : Place). enter_named for (record { class = None; name = name; name_place = q }) place fs) (sym h)) r)
named-leads types n token for (Some class) name name_place place fs s after ws e h r =
    at_token (token class place) (e class) (at_any word_is.Backquote (λ spot. refl) (at_token (identifier name name_place) refl
    (at_any word_is.OpenRound (λ spot. enters_named for (named_of_class class name name_place) place fs) r)))

pub type_name-leads : (types : TypeReader) (n : ℕ) (token : Name → Place → Token) (for : TypeNameFor) (type_name : TypeName) (place : Place) (fs : List Frame) (s after : State) (ws : List Written) → ((first : Name) → step types s (token first place) ≡ in_mode (awaits (type_after for first place)) fs) → IsTypeNameAt type_name place → Leads types n ws (enter_named for type_name place fs) after → Leads types n (type_name_spelling token type_name place ++ word word_is.OpenRound ∷ ws) s after
type_name-leads types n token for t place fs s after ws e h r = named-leads types n token for t.class t.name t.name_place place fs s after ws e h r

pub is_of_named-taken : (types : TypeReader) (type_name : TypeName) (inner : ExprTree) (place : Place) → Taken types inner → Taken types (is_of_named type_name inner place)
is_of_named-taken types type_name inner place t =
    record {
      taken = λ m fs b p. type_name-leads types closed is_named asked type_name place fs _ _ _ (λ first. refl) b.0
          (part inner word_is.CloseRound t b.1 below_one small (λ spot. refl) nothing_more);
    }

-- ---- postfixes

pub select-taken : (types : TypeReader) (target : ExprTree) (name : Name) (name_place place : Place) → Taken types target → Taken types (select target name name_place place)
select-taken types target name name_place place t =
    record { taken = λ m fs b p. before_word m target word_is.Dot place t b.0 p b.1 b.2 refl (at_token (identifier name name_place) refl nothing_more) }

pub select_of_class-taken : (types : TypeReader) (target : ExprTree) (class : Name) (class_place : Place) (name : Name) (name_place place : Place) → Taken types target → Taken types (select_of_class target class class_place name name_place place)
select_of_class-taken types target class class_place name name_place place t =
    record {
      taken = λ m fs b p. before_word m target word_is.Dot place t b.0 p b.1 b.2 refl (at_token (identifier class class_place) refl
          (at_any word_is.Backquote (λ spot. refl) (at_token (identifier name name_place) refl nothing_more)));
    }

pub select_part-taken : (types : TypeReader) (target : ExprTree) (number : ℤ) (place : Place) → Taken types target → Taken types (select_part target number place)
select_part-taken types target n place t =
    record { taken = λ m fs b p. before_word m target word_is.DotNumber place t b.0 p b.1 b.2 refl (at_number n (λ spot. refl) nothing_more) }

pub subsequence-taken : (types : TypeReader) (target first last : ExprTree) (place : Place) → Taken types target → Taken types first → Taken types last → Taken types (subsequence target first last place)
subsequence-taken types target first last place t u v =
    record {
      taken = λ m fs b p. before_word m target word_is.OpenRound place t b.0 p b.1 b.2 refl
          (part first word_is.Comma u b.3 below_one small (λ spot. refl)
          (at_any word_is.Dots (λ spot. refl) (at_any word_is.Comma (λ spot. refl)
          (part last word_is.CloseRound v b.4 below_one small (λ spot. refl) nothing_more))));
    }

-- ---- counters

names-leads : (types : TypeReader) (n : ℕ) (counter : Counter) (names done : List NameAt) (place : Place) (fs : List Frame) → AreSomeNames names → Leads types n (names_spelling names ++ word word_is.CloseRound ∷ []) (in_mode (awaits (counter_name counter done place)) fs) (in_mode (has (history counter (done ++ names) place)) fs)
names-leads types n counter [] done place fs h = absurd h
names-leads types n counter (first ∷ []) done place fs h =
    at_token (identifier first.name first.place) refl (at_any word_is.CloseRound (λ spot. refl) nothing_more)
names-leads types n counter (first ∷ next ∷ names) done place fs h =
    subst (λ (all : List NameAt). Leads types n (names_spelling (first ∷ next ∷ names) ++ word word_is.CloseRound ∷ []) (in_mode (awaits (counter_name counter done place)) fs) (in_mode (has (history counter all place)) fs))
    (append_assoc done (first ∷ []) (next ∷ names))
    (at_token (identifier first.name first.place) refl (at_any word_is.Comma (λ spot. refl) (names-leads types n counter (next ∷ names) (done ++ first ∷ []) place fs tt)))

pub history-taken : (types : TypeReader) (counter : Counter) (names : List NameAt) (place : Place) → Taken types (history counter names place)
history-taken types counter names place =
    record { taken = λ m fs b p. at_token (plain (word_is.Counter counter) place) refl (at_any word_is.OpenRound (λ spot. refl) (names-leads types closed counter names [] place fs b)) }
