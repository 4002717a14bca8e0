-- The pieces of a text put together are its bytes, and each lexeme's bytes are its slice.
use Rattle.std.specs.Prelude.{◌≡◌, ℕ, ◌-◌, ◌*◌, List, [], ◌∷◌, ◌++◌, take, drop}
use Rattle.std.specs.Str.{chars, encode_utf8_all}
use Rattle.vdm_lexer.specs.declared.lexeme.Lexeme.{Lexeme}
use Rattle.vdm_lexer.specs.declared.lexeme.LexKind.TheVariants.{End}
use Rattle.vdm_lexer.specs.Lexemes.{mark_length}
use Rattle.lexeme_laws.specs.Cuts.{Piece, together, AreCut}
use Rattle.lexeme_laws.specs.Cuts.Piece.{space, token}

-- the bytes from a lexeme's start to its end
abbrev pub slice_of : List ℕ → Lexeme → List ℕ
slice_of text lexeme = take (lexeme.end - lexeme.start) (drop lexeme.start text)

-- the lexemes are the tokens among the pieces, each with its kind and its slice, and the end
abbrev pub AreSlices : List ℕ → List Piece → List Lexeme → Type 0
AreSlices text [] [] = ⊥
AreSlices text [] (end ∷ []) = end.kind ≡ End
AreSlices text [] (lexeme ∷ other ∷ others) = ⊥
AreSlices text (space letters ∷ pieces) found = AreSlices text pieces found
AreSlices text (token kind letters ∷ pieces) [] = ⊥
AreSlices text (token kind letters ∷ pieces) (lexeme ∷ found) =
    (lexeme.kind ≡ kind) × (slice_of text lexeme ≡ encode_utf8_all letters) × AreSlices text pieces found

-- behind the three bytes of a byte-order mark, if there is one, a text is blanks, comments and slices put together
pub record IsPutTogether (text : List ℕ) (found : List Lexeme) : Type 0 where
  pub pieces : List Piece
  pub cut : AreCut pieces []
  pub is : text ≡ take (3 * mark_length (chars text)) text ++ encode_utf8_all (together pieces)
  pub slices : AreSlices text pieces found
