-- What a text begins with: white space or a comment, a token, or a fault.
use Rattle.std.specs.Prelude.{ℕ, ◌==◌, nat_lt, if◌then◌else◌, List, codes, drop, Option, Some, None}
use Rattle.vdm_kinds.specs.declared.spec_kind.SpecKind.TheVariants.{LexFault}
use Rattle.vdm_lexer.specs.declared.lexeme.LexKind.TheVariants.{Quote}
use Rattle.vdm_lexer.specs.declared.front.Front.{Front}
use Rattle.vdm_lexer.specs.declared.front.Front.TheVariants.{Space, Token, Fault}
use Rattle.vdm_lexer.specs.Characters.{is_blank, is_decimal, is_letter}
use Rattle.vdm_lexer.specs.Comments.{line_comment, block_comment}
use Rattle.vdm_lexer.specs.Numerals.{numeral_front}
use Rattle.vdm_lexer.specs.Pieces.{first, begins}
use Rattle.vdm_lexer.specs.Quoted.{string_front, character_front, quote_length}
use Rattle.vdm_lexer.specs.Signs.{sign_front}
use Rattle.vdm_lexer.specs.Words.{word_front}

-- a quote, or else a sign
abbrev pub quote_or_sign : Option ℕ → List ℕ → Front
quote_or_sign None text = sign_front text
quote_or_sign (Some more) text = Token Quote more

-- a token of a text by its first character, where neither white space nor a comment stands there: `'` (39), `"` (34), `<` (60), or
-- else a sign
abbrev pub token_front : List ℕ → Front
token_front text =
    if is_letter (first text) then word_front text
    else if is_decimal (first text) then numeral_front text
    else if first text == 39 then character_front (drop 1 text)
    else if first text == 34 then string_front (drop 1 text)
    else if first text == 60 then quote_or_sign (quote_length (drop 1 text)) text
    else if begins text (codes "\\begin{") then Fault LexFault 0
    else sign_front text

abbrev pub front_of : List ℕ → Front
front_of text =
    if is_blank (first text) then Space 0
    else if begins text (codes "--") then line_comment (drop 1 text)
    else if begins text (codes "/*") then block_comment (drop 2 text)
    else token_front text

-- how many characters stand behind the first of what a text begins with, or before its fault
abbrev pub reach : Front → ℕ
reach (Space more) = more
reach (Token kind more) = more
reach (Fault kind n) = n

-- what a text begins with, of whose characters so many stand before the first byte that is not UTF-8: nothing reaches that byte but a fault
abbrev pub front_within : ℕ → Front → Front
front_within good front = if nat_lt (reach front) good then front else Fault LexFault good
