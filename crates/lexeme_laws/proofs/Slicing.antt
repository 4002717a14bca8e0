-- The bytes of a text that is cut are those of its pieces.
use Rattle.std.proofs.Common.{◌≡◌, ℕ, ◌+◌, ◌-◌, ◌*◌, List, [], ◌∷◌, ◌++◌, length, take, drop, refl, ap, sym, subst, ◌∙◌, append_assoc, length-append, arith}
use Rattle.std.proofs.lemmas.List.{take_at, drop_at, take-append-drop}
use Rattle.std.proofs.lemmas.Str.{encodes-append, encodes-chars}
use Rattle.std.specs.Str.{chars, encode_utf8_all}
use Rattle.vdm_kinds.specs.declared.part.Part.{Part}
use Rattle.vdm_lexer.specs.declared.lexeme.Lexeme.{Lexeme}
use Rattle.vdm_lexer.specs.declared.spot.Spot.{Spot}
use Rattle.vdm_lexer.specs.Lexemes.{mark_length}
use Rattle.vdm_lexer.specs.Spots.{bytes_of}
use Rattle.vdm_lexer.proofs.Rising.{bytes-encoded, mark-bytes}
use Rattle.lexeme_laws.specs.Cuts.{Piece, together, behind_all, lexemes_at, beginning, AreLexemesOf}
use Rattle.lexeme_laws.specs.Cuts.Piece.{space, token}
use Rattle.lexeme_laws.specs.Slices.{AreSlices, IsPutTogether}

-- bytes behind those of a piece
behind-piece : (text front letters : List ℕ) (pieces : List Piece) → text ≡ front ++ encode_utf8_all (letters ++ together pieces) → text ≡ (front ++ encode_utf8_all letters) ++ encode_utf8_all (together pieces)
behind-piece text front letters pieces is =
    is ∙ ap (λ (t : List ℕ). front ++ t) (encodes-append letters (together pieces)) ∙ sym (append_assoc front (encode_utf8_all letters) (encode_utf8_all (together pieces)))

longer : (front letters : List ℕ) (n : ℕ) → length front ≡ n → length (front ++ encode_utf8_all letters) ≡ n + bytes_of letters
longer front letters n long =
    let sum = length-append front (encode_utf8_all letters) in
    let bytes = bytes-encoded letters in
    omega arith

slice-is : (text front letters : List ℕ) (pieces : List Piece) (n : ℕ) → text ≡ front ++ encode_utf8_all (letters ++ together pieces) → length front ≡ n → take ((n + bytes_of letters) - n) (drop n text) ≡ encode_utf8_all letters
slice-is text front letters pieces n is long =
    let bytes = bytes-encoded letters in
    let m : (n + bytes_of letters) - n ≡ length (encode_utf8_all letters) = omega arith in
    let behind : drop n text ≡ encode_utf8_all letters ++ encode_utf8_all (together pieces) =
    ap (drop n) is ∙ drop_at front (encode_utf8_all (letters ++ together pieces)) n long ∙ encodes-append letters (together pieces) in
    ap (λ (k : ℕ). take k (drop n text)) m
    ∙ ap (take (length (encode_utf8_all letters))) behind
    ∙ take_at (encode_utf8_all letters) (encode_utf8_all (together pieces)) (length (encode_utf8_all letters)) refl

slices-of : (text front : List ℕ) (pieces : List Piece) (spot : Spot) → text ≡ front ++ encode_utf8_all (together pieces) → length front ≡ spot.offset → AreSlices text pieces (lexemes_at spot pieces)
slices-of text front [] spot is long = refl
slices-of text front (space letters ∷ pieces) spot is long =
    slices-of text (front ++ encode_utf8_all letters) pieces (behind_all spot letters) (behind-piece text front letters pieces is) (longer front letters spot.offset long)
slices-of text front (token kind letters ∷ pieces) spot is long = (
  refl,
  slice-is text front letters pieces spot.offset is long,
  slices-of text (front ++ encode_utf8_all letters) pieces (behind_all spot letters) (behind-piece text front letters pieces is) (longer front letters spot.offset long),
)

-- the bytes of a byte-order mark
mark-encoded : (text : List ℕ) → length (encode_utf8_all (take (mark_length text) text)) ≡ 3 * mark_length text
mark-encoded text =
    let m = mark_length text in
    let all = mark-bytes text in
    let whole = bytes-encoded text in
    let front = bytes-encoded (take m text) in
    let behind = bytes-encoded (drop m text) in
    let both : length (encode_utf8_all text) ≡ length (encode_utf8_all (take m text) ++ encode_utf8_all (drop m text)) =
    ap (λ (t : List ℕ). length (encode_utf8_all t)) (sym (take-append-drop m text)) ∙ ap length (encodes-append (take m text) (drop m text)) in
    let sum = length-append (encode_utf8_all (take m text)) (encode_utf8_all (drop m text)) in
    omega (arith, all, whole, front, behind, both, sum)

-- a text is its mark and its pieces put together
whole-is : (part : Part) (text : List ℕ) (found : List Lexeme) (are : AreLexemesOf part text found) → text ≡ encode_utf8_all (take (mark_length (chars text)) (chars text)) ++ encode_utf8_all (together are.pieces)
whole-is part text found are =
    let m = mark_length (chars text) in
    sym (encodes-chars text are.utf8)
    ∙ ap encode_utf8_all (sym (take-append-drop m (chars text)))
    ∙ encodes-append (take m (chars text)) (drop m (chars text))
    ∙ ap (λ (t : List ℕ). encode_utf8_all (take m (chars text)) ++ encode_utf8_all t) are.is

pub slices-at : (part : Part) (text : List ℕ) (found : List Lexeme) (are : AreLexemesOf part text found) → AreSlices text are.pieces found
slices-at part text found are =
    subst (AreSlices text are.pieces) (sym are.lexemes)
    (slices-of text (encode_utf8_all (take (mark_length (chars text)) (chars text))) are.pieces (beginning part (chars text)) (whole-is part text found are) (mark-encoded (chars text)))

pub put-together : (part : Part) (text : List ℕ) (found : List Lexeme) → AreLexemesOf part text found → IsPutTogether text found
put-together part text found are =
    let m = mark_length (chars text) in
    let mark = encode_utf8_all (take m (chars text)) in
    let whole = whole-is part text found are in
    let front : take (3 * m) text ≡ mark = ap (take (3 * m)) whole ∙ take_at mark (encode_utf8_all (together are.pieces)) (3 * m) (mark-encoded (chars text)) in
    record {
      pieces = are.pieces;
      cut = are.cut;
      is = whole ∙ ap (λ (t : List ℕ). t ++ encode_utf8_all (together are.pieces)) (sym front);
      slices = slices-at part text found are;
    }
