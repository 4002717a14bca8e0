-- The lexemes of a text can be read as tokens, and are few.
use Rattle.std.proofs.Common.{◌≡◌, ℕ, zero, suc, ◌+◌, ◌≤◌, ◌<◌, ◌^◌, ◌==◌, ◌&&◌, Bool, true, false, cond, List, [], ◌∷◌, ◌++◌, length, take, drop, Ok, Err, nat_lt, refl, ap, sym, subst, ◌∙◌, arith}
use Rattle.std.specs.Str.{IsUtf8, chars, encode_utf8_all, all_scalars}
use Rattle.std.specs.Str.Parse.{digits_value}
use Rattle.std.proofs.lemmas.Bool.Decides.{nat_tests}
use Rattle.std.proofs.lemmas.Str.{chars-encodes, encodes-chars, scalars-chars}
use Rattle.vdm_kinds.specs.declared.part.Part.{Part}
use Rattle.vdm_lexer.specs.declared.lexeme.Lexeme.{Lexeme}
use Rattle.vdm_lexer.specs.declared.lexeme.LexKind.{LexKind}
use Rattle.vdm_lexer.specs.declared.lexeme.LexKind.TheVariants as lex
use Rattle.vdm_lexer.specs.declared.spot.Spot.{Spot}
use Rattle.vdm_kinds.specs.declared.part.Part.TheVariants.{Spec, Expr}
use Rattle.vdm_kinds.specs.declared.spec_kind.SpecKind.TheVariants.{TooLong}
use Rattle.vdm_lexer.specs.Decoded.{characters, good}
use Rattle.vdm_lexer.specs.Lexemes.{fault_at, lexemes, lexemes_of, lexeme_at, limit_of, mark_length}
use Rattle.vdm_lexer.specs.Rising.{Rises}
use Rattle.vdm_lexer.proofs.Rising.{lexemes-rise, bytes-encoded}
use Rattle.lexeme_laws.proofs.Bytes.{utf8-characters}
use Rattle.vdm_lexer.specs.Spots.{bytes_of, start_of}
use Rattle.lexeme_laws.specs.Alphabet.{is_decimal_digit}
use Rattle.lexeme_laws.specs.Cuts.{Piece, together, AreCut, behind_all, lexemes_at, beginning}
use Rattle.lexeme_laws.specs.Cuts.Piece.{space, token}
use Rattle.lexeme_laws.specs.Longest.{AreAll}
use Rattle.lexeme_laws.specs.Numerals.{IsDecimal, IsHexadecimal, IsWhole}
use Rattle.lexeme_laws.specs.Numerals.IsWhole.{decimal, hexadecimal}
use Rattle.lexeme_laws.specs.Slices.{AreSlices}
use Rattle.lexeme_laws.specs.Tokens.{IsToken}
use Rattle.lexeme_laws.proofs.Agree.{read-relation}
use Rattle.lexeme_laws.proofs.Slicing.{slices-at}
use Rattle.word_reader.specs.Words.{slice_of}
use Rattle.token_reader.specs.Read.{AreReadable}
use Rattle.token_reader.specs.Values.{is_hexadecimal, whole_value}

both : (a b : Bool) → (a && b) ≡ true → (a ≡ true) × (b ≡ true)
both true b h = (refl, h)
both false b h = absurd (cc)

scalars-parts : (a b : List ℕ) → all_scalars (a ++ b) ≡ true → (all_scalars a ≡ true) × (all_scalars b ≡ true)
scalars-parts [] b h = (refl, h)
scalars-parts (c ∷ a) b h =
    let one = both _ _ h in
    let rest = scalars-parts a b one.1 in
    (ap (λ (t : Bool). t && all_scalars a) one.0 ∙ rest.0, rest.1)

scalars-drop : (n : ℕ) (cs : List ℕ) → all_scalars cs ≡ true → all_scalars (drop n cs) ≡ true
scalars-drop zero cs h = h
scalars-drop (suc n) [] h = refl
scalars-drop (suc n) (c ∷ cs) h = scalars-drop n cs (both _ _ h).1

-- ---- the value of a whole literal

no_x : (c : ℕ) → is_decimal_digit c ≡ true → (c == 120) ≡ false
no_x c h = grind (arith, nat_tests)

and-false : (a b : Bool) → b ≡ false → (a && b) ≡ false
and-false true b h = h
and-false false b h = refl

decimal-plain : (piece : List ℕ) → IsDecimal piece → is_hexadecimal piece ≡ false
decimal-plain piece d = ap is_hexadecimal d.is ∙ by d.others d.all
  where
    by : (others : List ℕ) → AreAll is_decimal_digit (d.digit ∷ others) → is_hexadecimal (d.digit ∷ others) ≡ false
    by [] h = and-false _ _ refl
    by (c ∷ others) h = and-false _ _ (no_x c h.1.0)

hexadecimal-is : (piece : List ℕ) → IsHexadecimal piece → is_hexadecimal piece ≡ true
hexadecimal-is piece h = ap is_hexadecimal h.is

whole-small : (piece rest : List ℕ) → IsWhole piece rest → whole_value piece < 2 ^ 127
whole-small piece rest (decimal d behind h) =
    subst (λ (b : Bool). cond b (digits_value 16 (drop 2 piece)) (digits_value 10 piece) < 2 ^ 127) (sym (decimal-plain piece d)) h
whole-small piece rest (hexadecimal d h) =
    subst (λ (b : Bool). cond b (digits_value 16 (drop 2 piece)) (digits_value 10 piece) < 2 ^ 127) (sym (hexadecimal-is piece d)) h

token-small : (kind : LexKind) (letters rest : List ℕ) → IsToken kind letters rest → kind ≡ lex.Whole → whole_value letters < 2 ^ 127
token-small lex.Whole letters rest h e = whole-small letters rest h.whole
token-small lex.Identifier letters rest h e = absurd (cc)
token-small lex.Character letters rest h e = absurd (cc)
token-small lex.Text letters rest h e = absurd (cc)
token-small lex.Quote letters rest h e = absurd (cc)
token-small lex.Reserved letters rest h e = absurd (cc)
token-small lex.Sign letters rest h e = absurd (cc)
token-small lex.End letters rest h e = absurd h

-- ---- all lexemes

utf8-of : (slice letters : List ℕ) → slice ≡ encode_utf8_all letters → all_scalars letters ≡ true → IsUtf8 slice
utf8-of slice letters e h = (letters, (h, sym e))

none-utf8 : (text : List ℕ) (n m : ℕ) → m ≡ 0 → IsUtf8 (take m (drop n text))
none-utf8 text n m e = subst (λ (k : ℕ). IsUtf8 (take k (drop n text))) (sym e) ([], (refl, refl))

readable-at : (text : List ℕ) (pieces : List Piece) (spot : Spot) → AreSlices text pieces (lexemes_at spot pieces) → AreCut pieces [] → all_scalars (together pieces) ≡ true → AreReadable text (lexemes_at spot pieces)
readable-at text [] spot slices cut h = (record { utf8 = none-utf8 text spot.offset _ (omega arith); small = λ e. absurd (cc) }, tt)
readable-at text (space letters ∷ pieces) spot slices cut h = readable-at text pieces (behind_all spot letters) slices cut.1 (scalars-parts letters (together pieces) h).1
readable-at text (token kind letters ∷ pieces) spot slices cut h =
    let scalar = scalars-parts letters (together pieces) h in
    let letters-are : chars (slice_of text (lexeme_at kind spot (bytes_of letters))) ≡ letters = ap chars slices.1 ∙ chars-encodes letters scalar.0 in (
      record {
        utf8 = utf8-of _ letters slices.1 scalar.0;
        small = λ e. subst (λ (cs : List ℕ). whole_value cs < 2 ^ 127) (sym letters-are) (token-small kind letters (together pieces ++ []) cut.0 e);
      },
      readable-at text pieces (behind_all spot letters) slices.2 cut.1 scalar.1,
    )

pub lexemes-readable : (part : Part) (text : List ℕ) (found : List Lexeme) → lexemes part text ≡ Ok found → AreReadable text found
lexemes-readable part text found e =
    let are = read-relation part text found e in
    let slices = slices-at part text found are in
    let scalar = scalars-drop (mark_length (chars text)) (chars text) (scalars-chars text are.utf8) in
    subst (AreReadable text) (sym are.lexemes)
    (readable-at text are.pieces (beginning part (chars text)) (subst (AreSlices text are.pieces) are.lexemes slices) are.cut (ap all_scalars (sym are.is) ∙ scalar))

-- ---- how many lexemes there are

limit-most : (part : Part) → limit_of part ≤ 4_194_304
limit-most Spec = omega arith
limit-most Expr = omega arith

rising-few : (least size : ℕ) (found : List Lexeme) → Rises least size found → length found + least ≤ size + 1
rising-few least size [] h = absurd h
rising-few least size (lexeme ∷ []) h = let b = h.behind in omega arith
rising-few least size (lexeme ∷ other ∷ others) h =
    let rest = rising-few lexeme.end size (other ∷ others) h.1 in
    let a = h.0.behind in
    let b = h.0.some in
    omega arith

-- a text that is short enough is read by its characters
read-short : (part : Part) (text : List ℕ) (found : List Lexeme) → length text ≤ limit_of part → lexemes part text ≡ Ok found → lexemes_of part (good text) (characters text) ≡ Ok found
read-short part text found short e =
    let t : nat_lt (limit_of part) (length text) ≡ false = grind (arith, nat_tests) in
    ap (λ (b : Bool). cond b (Err (fault_at TooLong (start_of part))) (lexemes_of part (good text) (characters text))) (sym t) ∙ e

pub lexemes-few : (part : Part) (text : List ℕ) (found : List Lexeme) → lexemes part text ≡ Ok found → length found ≤ 4_194_305
lexemes-few part text found e =
    let are = read-relation part text found e in
    let most = limit-most part in
    let rise = rising-few 0 (bytes_of (characters text)) found (lexemes-rise part (good text) (characters text) found (read-short part text found are.short e)) in
    let bytes : bytes_of (characters text) ≡ length text =
    ap bytes_of (utf8-characters text are.utf8) ∙ bytes-encoded (chars text) ∙ ap length (encodes-chars text are.utf8) in
    omega (arith, are.short)
