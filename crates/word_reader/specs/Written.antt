-- The texts that have a row in the tables of words and signs, as the code has them, and the word that each is to the grammar.
use Rattle.std.specs.Prelude.{ℕ, Bool, true, ◌&&◌, if◌then◌else◌, bytes_eq, List, [], ◌∷◌, ◌++◌, map, Option, Some, None}
use Rattle.std.specs.Option.{is_some}
use Rattle.std.specs.Cmp.Lexicographic.{slice_cmp}
use Rattle.std.specs.Ordering.{nat_cmp, is_lt}
use Rattle.vdm_lexer.specs.declared.written.WrittenKind.{WrittenKind}
use Rattle.vdm_lexer.specs.declared.written.WrittenKind.TheVariants.{Reserved, LeftOut, Sign}
use Rattle.vdm_lexer.specs.Written as lexer
use Rattle.grammar_words.specs.declared.word.Word.{Word}
use Rattle.word_reader.specs.declared.written.TheConstants.{WORDS_TO_L, WORDS_FROM_M, SIGNS, FORMS}

-- a text and the word that it is
abbrev pub Row : Type 0
Row = List ℕ × Word

-- the reserved words that begin with a letter up to L, and with a later one
abbrev pub early_words : List Row
early_words = map (λ row. (row.0.now, row.1)) WORDS_TO_L

abbrev pub late_words : List Row
late_words = map (λ row. (row.0.now, row.1)) WORDS_FROM_M

abbrev pub reserved_words : List Row
reserved_words = early_words ++ late_words

abbrev pub signs : List Row
signs = map (λ row. (row.0.now, row.1)) SIGNS

-- the identifiers that are forms of their own
abbrev pub forms : List Row
forms = map (λ row. (row.0.now, row.1)) FORMS

-- the word of a text in the first of these rows that it stands in
unfoldable pub word_in : List ℕ → List Row → Option Word
word_in text [] = None
word_in text (row ∷ rows) = if bytes_eq text row.0 then Some row.1 else word_in text rows

-- whether the texts of these rows rise, byte by byte
abbrev pub are_rising : List Row → Bool
are_rising [] = true
are_rising (row ∷ []) = true
are_rising (row ∷ other ∷ rows) = is_lt (slice_cmp nat_cmp row.0 other.0) && are_rising (other ∷ rows)

-- whether a reserved word or a sign of the lexer has its row; what is left out needs none
abbrev pub has_word : lexer.Row → Bool
has_word row = has_word_as row.0 row.1
  where
    has_word_as : List ℕ → WrittenKind → Bool
    has_word_as text Reserved = is_some (word_in text reserved_words)
    has_word_as text Sign = is_some (word_in text signs)
    has_word_as text LeftOut = true
