-- The words and signs of the language, as the code has them in its table.
use Rattle.std.specs.Prelude.{ℕ, if◌then◌else◌, List, [], ◌∷◌, ◌++◌, map, Option, Some, None}
use Rattle.vdm_lexer.specs.declared.written.WrittenKind.{WrittenKind}
use Rattle.vdm_lexer.specs.declared.written.TheConstants.{WORDS_TO_L, WORDS_FROM_M, SIGNS}
use Rattle.vdm_lexer.specs.Pieces.{is_text}

-- a text and what it is: a reserved word, a word or a sign that is left out, or a sign
abbrev pub Row : Type 0
Row = List ℕ × WrittenKind

-- the words that begin with a letter up to L, and with a later one
abbrev pub early_words : List Row
early_words = map (λ row. (row.0.now, row.1)) WORDS_TO_L

abbrev pub late_words : List Row
late_words = map (λ row. (row.0.now, row.1)) WORDS_FROM_M

-- the words of the language, each with its kind
abbrev pub words : List Row
words = early_words ++ late_words

-- the signs of the language, each with its kind
abbrev pub signs : List Row
signs = map (λ row. (row.0.now, row.1)) SIGNS

abbrev pub sign_texts : List (List ℕ)
sign_texts = map (λ row. row.0.now) SIGNS

-- what a text is in the first of these rows that it stands in
unfoldable pub kind_in : List ℕ → List Row → Option WrittenKind
kind_in text [] = None
kind_in text (row ∷ rows) = if is_text text row.0 then Some row.1 else kind_in text rows
