-- The tokens of the grammar: what is written, at its place, with the name or the value that it stands for.
use Rattle.std.specs.Prelude.{ℕ, ℤ, List}
use Rattle.vdm_kinds.specs.declared.name.Name.{Name}
use Rattle.vdm_kinds.specs.declared.place.Place.{Place}
use Rattle.vdm_kinds.specs.declared.sign.Sign.TheVariants.{InSet, NotInSet}
use Rattle.grammar_words.specs.declared.word.Word.{Word}
use Rattle.grammar_words.specs.declared.word.Word.TheVariants.{Identifier, Quote, Whole, Character, Text, MakeNamed, IsNamed, Operator}

pub data Token : Type 0 where
  identifier : Name → Place → Token
  -- the name between the signs of `<Red>`
  quote : Name → Place → Token
  whole : ℤ → Place → Token
  character : ℕ → Place → Token
  text : List ℕ → Place → Token
  -- `mk_T` and `is_T`, by the name T
  make_named : Name → Place → Token
  is_named : Name → Place → Token
  -- every other word
  plain : Word → Place → Token

abbrev pub word_of : Token → Word
word_of (identifier name place) = Identifier
word_of (quote name place) = Quote
word_of (whole number place) = Whole
word_of (character c place) = Character
word_of (text characters place) = Text
word_of (make_named name place) = MakeNamed
word_of (is_named name place) = IsNamed
word_of (plain word place) = word

abbrev pub token_place : Token → Place
token_place (identifier name place) = place
token_place (quote name place) = place
token_place (whole number place) = place
token_place (character c place) = place
token_place (text characters place) = place
token_place (make_named name place) = place
token_place (is_named name place) = place
token_place (plain word place) = place

-- of how many lexemes a word is made
abbrev pub width : Word → ℕ
width (Operator InSet) = 2
width (Operator NotInSet) = 3
width _ = 1
