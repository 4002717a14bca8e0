-- How many tokens are left behind a bracket.
use Rattle.std.specs.Prelude.{◌≡◌, ◌≤◌, ℕ, List, Option, Some, None, length, reverse, take, slice_get}
use Rattle.grammar_words.specs.declared.word.Word.{Word}
use Rattle.grammar_words.specs.declared.word.Word.TheVariants as word_is
use Rattle.grammar_words.specs.Tokens.{Token}
use Rattle.stmt_reading.specs.Statements.{behind_bracket}

-- how many are left behind the bracket that closes the one open before these tokens
abbrev pub left_behind : List Token → ℕ
left_behind tokens = length (behind_bracket 0 tokens)

-- of tokens, the next of which is the last: for each number of them that is counted, how many are left behind the bracket
abbrev pub AreCounts : List ℕ → List Token → Type 0
AreCounts counts items = (left count : ℕ) → left ≤ length items → slice_get counts left ≡ Some count → count ≡ left_behind (reverse (take left items))

abbrev pub count_at : List ℕ → Option ℕ → Option ℕ
count_at counts None = None
count_at counts (Some left) = slice_get counts left

-- the count where a word comes before so many tokens
abbrev pub next_count : Word → ℕ → List ℕ → Option ℕ
next_count word_is.OpenRound left counts = count_at counts (slice_get counts left)
next_count word_is.CloseRound left counts = Some left
next_count _ left counts = slice_get counts left
