-- A bracket that comes next.
use Rattle.std.proofs.Common.{◌≡◌, List, ◌∷◌, if◌then◌else◌, Some, None, refl}
use Rattle.grammar_words.specs.Tokens.{Token, identifier, quote, whole, character, text, make_named, is_named, plain, word_of, token_place}
use Rattle.grammar_words.specs.declared.word.Word.TheVariants.{OpenRound}
use Rattle.stmt_reading.specs.Leaves.{is_word, word_in}

-- the next token is told by its word
pub bracket_at : (token : Token) (tokens : List Token) → word_in OpenRound (token ∷ tokens) ≡ (if is_word OpenRound (word_of token) then Some (token_place token, tokens) else None)
bracket_at (identifier name place) tokens = refl
bracket_at (quote name place) tokens = refl
bracket_at (whole number place) tokens = refl
bracket_at (character c place) tokens = refl
bracket_at (text characters place) tokens = refl
bracket_at (make_named name place) tokens = refl
bracket_at (is_named name place) tokens = refl
bracket_at (plain word place) tokens = refl
