-- The words of a text: identifiers and reserved words.
use Rattle.std.specs.Prelude.{ℕ, ◌+◌, List, drop, take, Option, Some, None}
use Rattle.std.specs.List.{prefix_len}
use Rattle.vdm_kinds.specs.declared.spec_kind.SpecKind.TheVariants.{LeftOut as left_out}
use Rattle.vdm_lexer.specs.declared.lexeme.LexKind.TheVariants.{Identifier, Reserved as reserved}
use Rattle.vdm_lexer.specs.declared.front.Front.{Front}
use Rattle.vdm_lexer.specs.declared.front.Front.TheVariants.{Token, Fault}
use Rattle.vdm_lexer.specs.declared.written.WrittenKind.{WrittenKind}
use Rattle.vdm_lexer.specs.declared.written.WrittenKind.TheVariants.{Reserved, LeftOut, Sign}
use Rattle.vdm_lexer.specs.Characters.{is_of_word}
use Rattle.vdm_lexer.specs.Written.{kind_in, words}

-- what a word is, by its kind in the table; so many characters stand behind its first
abbrev pub word_token : Option WrittenKind → ℕ → Front
word_token (Some LeftOut) more = Fault left_out 0
word_token (Some Reserved) more = Token reserved more
word_token (Some Sign) more = Token Identifier more
word_token None more = Token Identifier more

-- the first character of a text, where it is a letter, and all characters of words behind it
abbrev pub word_front : List ℕ → Front
word_front text = word_token (kind_in (take (prefix_len is_of_word (drop 1 text) + 1) text) words) (prefix_len is_of_word (drop 1 text))
