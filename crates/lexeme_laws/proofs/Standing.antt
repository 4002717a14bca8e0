-- What stands in front of a text is what is read there.
use Rattle.std.proofs.Common.{◌≡◌, ℕ, ◌+◌, ◌-◌, ◌==◌, ◌||◌, Bool, true, false, cond, nat_lt, List, [], ◌∷◌, ◌++◌, length, take, drop, codes, Option, Some, None, refl, ap, sym, subst, ◌∙◌, append_assoc, length-append, arith}
use Rattle.std.proofs.lemmas.List.{take_at, drop_at}
use Rattle.std.proofs.lemmas.Bool.Decides.{nat_tests}
use Rattle.vdm_kinds.specs.declared.spec_kind.SpecKind.{SpecKind}
use Rattle.vdm_kinds.specs.declared.spec_kind.SpecKind.TheVariants.{LexFault, LeftOut as left_out}
use Rattle.vdm_lexer.specs.declared.front.Front.TheVariants.{Space, Token, Fault}
use Rattle.vdm_lexer.specs.declared.lexeme.LexKind.{LexKind}
use Rattle.vdm_lexer.specs.declared.lexeme.LexKind.TheVariants.{Identifier, Whole, Character, Text, Quote, Reserved, Sign, End}
use Rattle.vdm_lexer.specs.declared.written.WrittenKind.{WrittenKind}
use Rattle.vdm_lexer.specs.declared.written.WrittenKind.TheVariants as written
use Rattle.vdm_lexer.specs.Comments.{line_comment, block_comment, closed_comment, comment_close}
use Rattle.vdm_lexer.specs.Escapes.{escape_length}
use Rattle.vdm_lexer.specs.Fronts.{front_of, token_front, quote_or_sign}
use Rattle.vdm_lexer.specs.Numerals.{numeral_front, is_small, is_fraction, is_exponent, whole_token}
use Rattle.vdm_lexer.specs.Pieces.{begins, first, is_text}
use Rattle.vdm_lexer.specs.Quoted.{string_front, string_to, closed_string, character_front, closed_character, escaped_character, refused_character, quote_length, close_of, refused_in}
use Rattle.vdm_lexer.specs.Signs.{sign_token}
use Rattle.vdm_lexer.specs.Words.{word_token}
use Rattle.vdm_lexer.specs.Written.{kind_in, words, signs}
use Rattle.vdm_lexer.proofs.Scans.{plus}
use Rattle.lexeme_laws.specs.Faults.{IsFault, IsLexFault, IsLeftOut, IsRefusedCharacter, IsRefusedString}
use Rattle.lexeme_laws.specs.Literals.{IsWord, IsEscape, IsUnit, IsKept, IsClosed, IsString, IsCharacter, IsQuote}
use Rattle.lexeme_laws.specs.Longest.{IsMadeOf, IsLongest, NoFront}
use Rattle.lexeme_laws.specs.Numerals.{IsDecimal, IsHexadecimal, IsNumeral, IsWhole, IsLeftOutNumeral}
use Rattle.lexeme_laws.specs.Spaces.{IsBlank, IsLineComment, IsBlockComment, IsSpace}
use Rattle.lexeme_laws.specs.Tokens.{IsSign, IsSignPlace, IsSignToken, IsToken}
use Rattle.lexeme_laws.proofs.Alphabet.{letter-out, word-out, if-less, if-most, goes-out, stops-out}
use Rattle.lexeme_laws.proofs.Begun.{same-if}
use Rattle.lexeme_laws.proofs.Chains.{at-letter, at-digit, at-sign}
use Rattle.lexeme_laws.proofs.Escapes.{escape-read, escape-none, escape-found, no-escape}
use Rattle.lexeme_laws.proofs.Kept.{closed-read, closed-none, closed-if}
use Rattle.lexeme_laws.proofs.Numerals.{decimal_read, decimal-read, hexadecimal-read}
use Rattle.lexeme_laws.proofs.Quotes.{quote-read, first-is}
use Rattle.lexeme_laws.proofs.Signs.{sign-read, sign-some, sign-none}
use Rattle.lexeme_laws.proofs.Spaces.{line-read, close-read, close-found}
use Rattle.lexeme_laws.proofs.Units.{units-read, refused-here}
use Rattle.lexeme_laws.proofs.Words.{word-read}

-- blanks and comments

abbrev ReadsAsSpace : List ℕ → List ℕ → Type 0
ReadsAsSpace rest piece = front_of (piece ++ rest) ≡ Space (length piece - 1)

blank-read : (piece rest : List ℕ) → IsBlank piece → ReadsAsSpace rest piece
blank-read piece rest b =
    subst (ReadsAsSpace rest) (sym b.is)
    (ap (λ (h : Bool). cond h (Space 0) (cond (begins (b.character ∷ rest) (codes "--")) (line_comment rest) (cond (begins (b.character ∷ rest) (codes "/*")) (block_comment (drop 1 rest)) (token_front (b.character ∷ rest))))) b.blank)

line-space : (piece rest : List ℕ) → IsLongest IsLineComment piece rest → ReadsAsSpace rest piece
unfolding begins
line-space piece rest l =
    let w = l.is in
    let run = line-read w.line rest w.of_line (subst (λ (p : List ℕ). IsLongest IsLineComment p rest) w.is l) in
    let n : 1 + length w.line ≡ length (45 ∷ 45 ∷ w.line) - 1 = omega arith in
    subst (ReadsAsSpace rest) (sym w.is) (ap (λ (n : ℕ). Space (1 + n)) run ∙ ap Space n)

block-space : (piece rest : List ℕ) → IsBlockComment piece → ReadsAsSpace rest piece
unfolding begins
block-space piece rest w =
    let sum = length-append w.inside (42 ∷ 47 ∷ []) in
    let n : length w.inside + 3 ≡ length (47 ∷ 42 ∷ (w.inside ++ 42 ∷ 47 ∷ [])) - 1 = omega arith in
    subst (ReadsAsSpace rest) (sym w.is)
    (ap (λ (t : List ℕ). closed_comment (comment_close t)) (append_assoc w.inside (42 ∷ 47 ∷ []) rest)
    ∙ ap closed_comment (close-read w.inside rest w.without)
    ∙ ap Space n)

pub space-read : (piece rest : List ℕ) → IsSpace piece rest → front_of (piece ++ rest) ≡ Space (length piece - 1)
space-read piece rest (IsSpace.blank b) = blank-read piece rest b
space-read piece rest (IsSpace.line l) = line-space piece rest l
space-read piece rest (IsSpace.block w) = block-space piece rest w

-- words

longest-word : (piece rest : List ℕ) → IsLongest IsWord piece rest → front_of (piece ++ rest) ≡ word_token (kind_in piece words) (length piece - 1)
longest-word piece rest l =
    let w = l.is in
    let n : length w.others ≡ length (w.letter ∷ w.others) - 1 = omega arith in
    subst (λ (p : List ℕ). front_of (p ++ rest) ≡ word_token (kind_in p words) (length p - 1)) (sym w.is)
    (at-letter w.letter (w.others ++ rest) (letter-out w.letter w.first)
    ∙ word-read w.letter w.others rest (letter-out w.letter w.first) (word-out w.others w.of_word) (subst (λ (p : List ℕ). IsLongest IsWord p rest) w.is l)
    ∙ ap (word_token (kind_in (w.letter ∷ w.others) words)) n)

named : (kind : Option WrittenKind) (n : ℕ) → (kind ≡ Some written.Reserved → ⊥) → (kind ≡ Some written.LeftOut → ⊥) → word_token kind n ≡ Token Identifier n
named None n h k = refl
named (Some written.Reserved) n h k = absurd (h refl)
named (Some written.LeftOut) n h k = absurd (k refl)
named (Some written.Sign) n h k = refl

-- numerals

longest-decimal : (piece rest : List ℕ) → IsDecimal piece → IsLongest IsNumeral piece rest → front_of (piece ++ rest) ≡ decimal_read piece rest
longest-decimal piece rest w l =
    subst (λ (p : List ℕ). front_of (p ++ rest) ≡ numeral_front (p ++ rest)) (sym w.is) (at-digit w.digit (w.others ++ rest) w.all.0)
    ∙ decimal-read piece rest w l

longest-hexadecimal : (piece rest : List ℕ) → IsHexadecimal piece → IsLongest IsNumeral piece rest → front_of (piece ++ rest) ≡ whole_token (is_small 16 (drop 2 piece)) (length piece - 1)
longest-hexadecimal piece rest w l =
    subst (λ (p : List ℕ). front_of (p ++ rest) ≡ numeral_front (p ++ rest)) (sym w.is) (at-digit 48 (120 ∷ w.digit ∷ (w.others ++ rest)) refl)
    ∙ hexadecimal-read piece rest w l

whole-read : (piece rest : List ℕ) → IsLongest IsNumeral piece rest → IsWhole piece rest → front_of (piece ++ rest) ≡ Token Whole (length piece - 1)
whole-read piece rest l (IsWhole.decimal w none small) =
    longest-decimal piece rest w l
    ∙ ap (λ (b : Bool). cond b (Fault left_out 0) (whole_token (is_small 10 piece) (length piece - 1))) (stops-out rest none)
    ∙ ap (λ (b : Bool). whole_token b (length piece - 1)) (if-less _ _ small)
whole-read piece rest l (IsWhole.hexadecimal w small) = longest-hexadecimal piece rest w l ∙ ap (λ (b : Bool). whole_token b (length piece - 1)) (if-less _ _ small)

either : (b : Bool) → cond b (Fault left_out 0) (Fault left_out 0) ≡ Fault left_out 0
either true = refl
either false = refl

left_out-numeral : (piece rest : List ℕ) → IsLongest IsNumeral piece rest → IsLeftOutNumeral piece rest → front_of (piece ++ rest) ≡ Fault left_out 0
left_out-numeral piece rest l (IsLeftOutNumeral.longer w more) =
    longest-decimal piece rest w l ∙ ap (λ (b : Bool). cond b (Fault left_out 0) (whole_token (is_small 10 piece) (length piece - 1))) (goes-out rest more)
left_out-numeral piece rest l (IsLeftOutNumeral.great w most) =
    longest-decimal piece rest w l
    ∙ ap (λ (b : Bool). cond (is_fraction rest || is_exponent rest) (Fault left_out 0) (whole_token b (length piece - 1))) (if-most _ _ most)
    ∙ either (is_fraction rest || is_exponent rest)
left_out-numeral piece rest l (IsLeftOutNumeral.great_hexadecimal w most) = longest-hexadecimal piece rest w l ∙ ap (λ (b : Bool). whole_token b (length piece - 1)) (if-most _ _ most)

-- strings

string-at : (cs : List ℕ) → front_of (34 ∷ cs) ≡ string_front cs
unfolding begins
string-at cs = refl

inside-of : (inside rest : List ℕ) → take (length inside) (inside ++ rest) ≡ inside
inside-of inside rest = take_at inside rest (length inside) refl

string-closed : (inside rest : List ℕ) → IsMadeOf (IsKept 34) inside → front_of (34 ∷ (inside ++ 34 ∷ rest)) ≡ closed_string (length inside) (refused_in inside)
string-closed inside rest kept =
    string-at (inside ++ 34 ∷ rest)
    ∙ ap (string_to (inside ++ 34 ∷ rest)) (closed-read 34 refl inside rest kept)
    ∙ ap (λ (t : List ℕ). closed_string (length inside) (refused_in t)) (inside-of inside (34 ∷ rest))

append-none : (text : List ℕ) → text ≡ text ++ []
append-none [] = refl
append-none (c ∷ cs) = ap (λ (t : List ℕ). c ∷ t) (append-none cs)

string-read : (piece rest : List ℕ) → IsString piece → front_of (piece ++ rest) ≡ Token Text (length piece - 1)
string-read piece rest w =
    let good : refused_in w.inside ≡ None = ap refused_in (append-none w.inside) ∙ units-read w.inside [] w.units in
    let sum = length-append w.inside (34 ∷ []) in
    let n : length w.inside + 1 ≡ length (34 ∷ (w.inside ++ 34 ∷ [])) - 1 = omega arith in
    subst (λ (p : List ℕ). front_of (p ++ rest) ≡ Token Text (length p - 1)) (sym w.is)
    (ap (λ (t : List ℕ). front_of (34 ∷ t)) (append_assoc w.inside (34 ∷ []) rest)
    ∙ string-closed w.inside rest w.kept
    ∙ ap (closed_string (length w.inside)) good
    ∙ ap (Token Text) n)

-- characters

character-at : (cs : List ℕ) → front_of (39 ∷ cs) ≡ character_front cs
unfolding begins
character-at cs = refl

plain-character : (c : ℕ) (rest : List ℕ) → (c == 92) ≡ false → front_of (39 ∷ c ∷ 39 ∷ rest) ≡ Token Character 2
plain-character c rest h =
    character-at (c ∷ 39 ∷ rest)
    ∙ ap (λ (b : Bool). cond b (escaped_character (escape_length (39 ∷ rest)) (c ∷ 39 ∷ rest)) (Token Character 2)) h

escaped-closed : (unit rest : List ℕ) (behind : List ℕ) → IsEscape unit → unit ≡ 92 ∷ behind → front_of (39 ∷ (unit ++ 39 ∷ rest)) ≡ Token Character (length unit + 1)
escaped-closed unit rest behind one is =
    let read : escape_length (behind ++ 39 ∷ rest) ≡ Some (length unit - 1) =
    ap (λ (u : List ℕ). escape_length (drop 1 (u ++ 39 ∷ rest))) (sym is) ∙ escape-read unit (39 ∷ rest) one in
    let long : length unit ≡ length (92 ∷ behind) = ap length is in
    let n : (length unit - 1) + 1 ≡ length unit = omega arith in
    let close : drop (length unit) (unit ++ 39 ∷ rest) ≡ 39 ∷ rest = drop_at unit (39 ∷ rest) (length unit) refl in
    ap (λ (u : List ℕ). front_of (39 ∷ (u ++ 39 ∷ rest))) is
    ∙ character-at (92 ∷ (behind ++ 39 ∷ rest))
    ∙ ap (λ (found : Option ℕ). escaped_character found (92 ∷ (behind ++ 39 ∷ rest))) read
    ∙ ap (λ (m : ℕ). closed_character m (92 ∷ (behind ++ 39 ∷ rest))) n
    ∙ ap (λ (u : List ℕ). closed_character (length unit) (u ++ 39 ∷ rest)) (sym is)
    ∙ ap (λ (t : List ℕ). cond (first t == 39) (Token Character (length unit + 1)) (Fault LexFault 0)) close

pub record IsBackslashed (piece : List ℕ) : Type 0 where
  pub behind : List ℕ
  pub is : piece ≡ 92 ∷ behind

pub escape-begins : (piece : List ℕ) → IsEscape piece → IsBackslashed piece
escape-begins piece (IsEscape.plain c is h) = record { behind = c ∷ []; is = is }
escape-begins piece (IsEscape.two a b is all) = record { behind = 120 ∷ a ∷ b ∷ []; is = is }
escape-begins piece (IsEscape.four a b c d is all scalar) = record { behind = 117 ∷ a ∷ b ∷ c ∷ d ∷ []; is = is }

unit-closed : (unit rest : List ℕ) → IsUnit unit → front_of (39 ∷ (unit ++ 39 ∷ rest)) ≡ Token Character (length unit + 1)
unit-closed unit rest (IsUnit.character c is h) = subst (λ (u : List ℕ). front_of (39 ∷ (u ++ 39 ∷ rest)) ≡ Token Character (length u + 1)) (sym is) (plain-character c rest h)
unit-closed unit rest (IsUnit.escape one) = let begun = escape-begins unit one in escaped-closed unit rest begun.behind one begun.is

character-read : (piece rest : List ℕ) → IsCharacter piece → front_of (piece ++ rest) ≡ Token Character (length piece - 1)
character-read piece rest w =
    let sum = length-append w.unit (39 ∷ []) in
    let n : length w.unit + 1 ≡ length (39 ∷ (w.unit ++ 39 ∷ [])) - 1 = omega arith in
    subst (λ (p : List ℕ). front_of (p ++ rest) ≡ Token Character (length p - 1)) (sym w.is)
    (ap (λ (t : List ℕ). front_of (39 ∷ t)) (append_assoc w.unit (39 ∷ []) rest)
    ∙ unit-closed w.unit rest w.one
    ∙ ap (Token Character) n)

-- quotes and signs

quote-at : (cs : List ℕ) → front_of (60 ∷ cs) ≡ quote_or_sign (quote_length cs) (60 ∷ cs)
unfolding begins
quote-at cs = refl

quote-token : (piece rest : List ℕ) → IsQuote piece → front_of (piece ++ rest) ≡ Token Quote (length piece - 1)
quote-token piece rest q =
    let whole : piece ++ rest ≡ 60 ∷ ((q.word ++ 62 ∷ []) ++ rest) = ap (λ (p : List ℕ). p ++ rest) q.is in
    ap front_of whole
    ∙ quote-at ((q.word ++ 62 ∷ []) ++ rest)
    ∙ ap (λ (t : List ℕ). quote_or_sign (quote_length (drop 1 t)) t) (sym whole)
    ∙ ap (λ (found : Option ℕ). quote_or_sign found (piece ++ rest)) (quote-read piece rest q)

sign-place-read : (piece rest : List ℕ) → IsSignPlace (piece ++ rest) → IsLongest IsSign piece rest → front_of (piece ++ rest) ≡ sign_token (kind_in piece signs) (length piece)
sign-place-read piece rest place l = at-sign (piece ++ rest) place ∙ sign-read piece rest l

sign-token : (piece rest : List ℕ) → IsSignToken piece rest → front_of (piece ++ rest) ≡ Token Sign (length piece - 1)
sign-token piece rest t =
    let some = sign-some piece t.sign.is in
    let test : nat_lt 0 (length piece) ≡ true = grind (arith, nat_tests) in
    sign-place-read piece rest t.place t.sign
    ∙ ap (λ (kind : Option WrittenKind). sign_token kind (length piece)) t.left_in
    ∙ ap (λ (b : Bool). cond b (Token Sign (length piece - 1)) (Fault LexFault 0)) test

pub token-read : (kind : LexKind) (piece rest : List ℕ) → IsToken kind piece rest → front_of (piece ++ rest) ≡ Token kind (length piece - 1)
token-read Identifier piece rest t = longest-word piece rest t.word ∙ named (kind_in piece words) (length piece - 1) t.unreserved t.left_in
token-read Reserved piece rest t = longest-word piece rest t.word ∙ ap (λ (kind : Option WrittenKind). word_token kind (length piece - 1)) t.reserved
token-read Whole piece rest t = whole-read piece rest t.numeral t.whole
token-read Character piece rest t = character-read piece rest t
token-read Text piece rest t = string-read piece rest t
token-read Quote piece rest t = quote-token piece rest t
token-read Sign piece rest t = sign-token piece rest t
token-read End piece rest t = absurd t

-- faults

block-at : (cs : List ℕ) → front_of (47 ∷ 42 ∷ cs) ≡ closed_comment (comment_close cs)
unfolding begins
block-at cs = refl

open-comment : (cs : List ℕ) → NoFront IsBlockComment (47 ∷ 42 ∷ cs) → comment_close cs ≡ None
open-comment cs none = by (comment_close cs) refl
  where
    by : (found : Option ℕ) → comment_close cs ≡ found → found ≡ None
    by None e = refl
    by (Some n) e =
        let shut = close-found cs n e in
        absurd (none (47 ∷ 42 ∷ (shut.inside ++ 42 ∷ 47 ∷ [])) shut.others
        (ap (λ (t : List ℕ). 47 ∷ 42 ∷ t) (shut.is ∙ sym (append_assoc shut.inside (42 ∷ 47 ∷ []) shut.others)))
        (record { inside = shut.inside; is = refl; without = shut.without }))

string_escape-read : (text front : List ℕ) → IsRefusedString text front → front_of text ≡ Fault LexFault (length front + 1)
string_escape-read text front w =
    let refused : refused_in (front ++ 92 ∷ w.behind) ≡ Some (length front) =
    units-read front (92 ∷ w.behind) w.units ∙ ap (plus (length front)) (refused-here w.behind (escape-none w.behind w.refused))
    ∙ (let e : 0 + length front ≡ length front = omega arith in ap Some e) in
    ap front_of w.is
    ∙ string-closed (front ++ 92 ∷ w.behind) w.others w.kept
    ∙ ap (closed_string (length (front ++ 92 ∷ w.behind))) refused

character_escape-read : (text : List ℕ) → IsRefusedCharacter text → front_of text ≡ Fault LexFault 1
character_escape-read text w =
    ap front_of w.is
    ∙ character-at (92 ∷ w.behind)
    ∙ ap (λ (found : Option ℕ). escaped_character found (92 ∷ w.behind)) (escape-none w.behind w.refused)
    ∙ closed (close_of 39 (92 ∷ w.behind)) refl
  where
    closed : (found : Option ℕ) → close_of 39 (92 ∷ w.behind) ≡ found → refused_character found ≡ Fault LexFault 1
    closed None e =
        let some : close_of 39 (92 ∷ w.behind) ≡ Some (length w.closed.inside) = ap (close_of 39) w.closed.is ∙ closed-read 39 refl w.closed.inside w.closed.others w.closed.kept in
        let wrong = sym e ∙ some in
        absurd (cc)
    closed (Some n) e = refl

begin-at : (cs : List ℕ) → front_of (codes "\\begin{" ++ cs) ≡ Fault LexFault 0
unfolding begins
begin-at cs = refl

string-open : (cs : List ℕ) → (IsClosed 34 cs → ⊥) → front_of (34 ∷ cs) ≡ Fault LexFault 0
string-open cs h = string-at cs ∙ ap (string_to cs) (closed-none 34 cs h)

nothing : sign_token (kind_in [] signs) 0 ≡ Fault LexFault 0
unfolding kind_in is_text
nothing = refl

other-read : (text : List ℕ) → IsSignPlace text → NoFront IsSign text → front_of text ≡ Fault LexFault 0
other-read text place none =
    at-sign text place
    ∙ ap (λ (n : ℕ). sign_token (kind_in (take n text) signs) n) (sign-none text none)
    ∙ nothing

-- a character that is closed, one with an escape that is refused, or neither

pub data IsCharacterCut (cs : List ℕ) : Type 0 where
  closed : (piece rest : List ℕ) → 39 ∷ cs ≡ piece ++ rest → IsCharacter piece → IsCharacterCut cs
  refused : IsRefusedCharacter (39 ∷ cs) → IsCharacterCut cs
  unclosed : front_of (39 ∷ cs) ≡ Fault LexFault 0 → IsCharacterCut cs

plain-cut : (cs : List ℕ) → (first cs == 92) ≡ false → (b : Bool) → (first (drop 1 cs) == 39) ≡ b → IsCharacterCut cs
plain-cut [] h true k = let z = same-if 0 39 k in absurd (omega arith)
plain-cut (c ∷ cs) h true k =
    let begun = first-is cs 39 (omega arith) k in
    closed (39 ∷ c ∷ 39 ∷ []) begun.behind (ap (λ (t : List ℕ). 39 ∷ c ∷ t) begun.is)
    (record { unit = c ∷ []; is = refl; one = IsUnit.character c refl h })
plain-cut cs h false k =
    unclosed (character-at cs
    ∙ ap (λ (b : Bool). cond b (escaped_character (escape_length (drop 1 cs)) cs) (closed_character 1 cs)) h
    ∙ ap (λ (b : Bool). cond b (Token Character 2) (Fault LexFault 0)) k)

escaped-at : (behind : List ℕ) → front_of (39 ∷ 92 ∷ behind) ≡ escaped_character (escape_length behind) (92 ∷ behind)
escaped-at behind = character-at (92 ∷ behind)

refused-cut : (behind : List ℕ) → escape_length behind ≡ None → (found : Option ℕ) → close_of 39 (92 ∷ behind) ≡ found → IsCharacterCut (92 ∷ behind)
refused-cut behind h None e = unclosed (escaped-at behind ∙ ap (λ (found : Option ℕ). escaped_character found (92 ∷ behind)) h ∙ ap refused_character e)
refused-cut behind h (Some n) e = refused (record { behind = behind; is = refl; refused = no-escape behind h; closed = closed-if 39 (92 ∷ behind) n e })

escaped-cut : (behind : List ℕ) (k : ℕ) → escape_length behind ≡ Some k → (b : Bool) → (first (drop (k + 1) (92 ∷ behind)) == 39) ≡ b → IsCharacterCut (92 ∷ behind)
escaped-cut behind k h true e =
    let escaped = escape-found behind k h in
    let others : drop (k + 1) (92 ∷ behind) ≡ escaped.others = ap (drop (k + 1)) escaped.is ∙ drop_at escaped.escape escaped.others (k + 1) escaped.long in
    let begun = first-is escaped.others 39 (omega arith) (ap (λ (t : List ℕ). first t == 39) (sym others) ∙ e) in
    closed (39 ∷ (escaped.escape ++ 39 ∷ [])) begun.behind
    (ap (λ (t : List ℕ). 39 ∷ t) (escaped.is ∙ ap (λ (t : List ℕ). escaped.escape ++ t) begun.is ∙ sym (append_assoc escaped.escape (39 ∷ []) begun.behind)))
    (record { unit = escaped.escape; is = refl; one = IsUnit.escape escaped.one })
escaped-cut behind k h false e =
    unclosed (escaped-at behind
    ∙ ap (λ (found : Option ℕ). escaped_character found (92 ∷ behind)) h
    ∙ ap (λ (b : Bool). cond b (Token Character ((k + 1) + 1)) (Fault LexFault 0)) e)

backslash-cut : (behind : List ℕ) (found : Option ℕ) → escape_length behind ≡ found → IsCharacterCut (92 ∷ behind)
backslash-cut behind None h = refused-cut behind h (close_of 39 (92 ∷ behind)) refl
backslash-cut behind (Some k) h = escaped-cut behind k h (first (drop (k + 1) (92 ∷ behind)) == 39) refl

pub character-cut : (cs : List ℕ) → IsCharacterCut cs
character-cut cs = by (first cs == 92) refl
  where
    by : (b : Bool) → (first cs == 92) ≡ b → IsCharacterCut cs
    by true e =
        let begun = first-is cs 92 (omega arith) e in
        subst IsCharacterCut (sym begun.is) (backslash-cut begun.behind (escape_length begun.behind) refl)
    by false e = plain-cut cs e (first (drop 1 cs) == 39) refl

character-open : (cs : List ℕ) → NoFront IsCharacter (39 ∷ cs) → (IsRefusedCharacter (39 ∷ cs) → ⊥) → front_of (39 ∷ cs) ≡ Fault LexFault 0
character-open cs h k = by (character-cut cs)
  where
    by : IsCharacterCut cs → front_of (39 ∷ cs) ≡ Fault LexFault 0
    by (closed piece rest is w) = absurd (h piece rest is w)
    by (refused w) = absurd (k w)
    by (unclosed e) = e

-- a fault is read as it stands

lexical-read : (text : List ℕ) (n : ℕ) → IsLexFault text n → front_of text ≡ Fault LexFault n
lexical-read text n (IsLexFault.comment cs is none e) =
    ap front_of is ∙ block-at cs ∙ ap closed_comment (open-comment cs (subst (NoFront IsBlockComment) is none)) ∙ ap (Fault LexFault) (sym e)
lexical-read text n (IsLexFault.string cs is none e) = ap front_of is ∙ string-open cs none ∙ ap (Fault LexFault) (sym e)
lexical-read text n (IsLexFault.string_escape front w e) = string_escape-read text front w ∙ ap (Fault LexFault) (sym e)
lexical-read text n (IsLexFault.character cs is none other e) =
    ap front_of is ∙ character-open cs (subst (NoFront IsCharacter) is none) (λ w. other (subst IsRefusedCharacter (sym is) w)) ∙ ap (Fault LexFault) (sym e)
lexical-read text n (IsLexFault.character_escape w e) = character_escape-read text w ∙ ap (Fault LexFault) (sym e)
lexical-read text n (IsLexFault.begin cs is e) = ap front_of is ∙ begin-at cs ∙ ap (Fault LexFault) (sym e)
lexical-read text n (IsLexFault.other c cs is place none e) = other-read text place none ∙ ap (Fault LexFault) (sym e)

left_out-read : (text : List ℕ) → IsLeftOut text → front_of text ≡ Fault left_out 0
left_out-read text (IsLeftOut.word piece rest is l kind) =
    ap front_of is ∙ longest-word piece rest l ∙ ap (λ (found : Option WrittenKind). word_token found (length piece - 1)) kind
left_out-read text (IsLeftOut.numeral piece rest is l w) = ap front_of is ∙ left_out-numeral piece rest l w
left_out-read text (IsLeftOut.sign piece rest is place l kind) =
    ap front_of is ∙ sign-place-read piece rest (subst IsSignPlace is place) l ∙ ap (λ (found : Option WrittenKind). sign_token found (length piece)) kind

pub fault-read : (text : List ℕ) (kind : SpecKind) (n : ℕ) → IsFault text kind n → front_of text ≡ Fault kind n
fault-read text kind n (IsFault.lexical is w) = lexical-read text n w ∙ ap (λ (k : SpecKind). Fault k n) (sym is)
fault-read text kind n (IsFault.left_out is e w) = left_out-read text w ∙ ap (λ (m : ℕ). Fault left_out m) (sym e) ∙ ap (λ (k : SpecKind). Fault k n) (sym is)
