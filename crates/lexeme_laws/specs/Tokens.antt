-- Which pieces of a text are tokens, before the rest of it.
use Rattle.std.specs.Prelude.{◌≡◌, ℕ, ◌==◌, false, List, ◌++◌, codes, Some}
use Rattle.std.specs.List.{IsAmong}
use Rattle.vdm_lexer.specs.declared.lexeme.LexKind.{LexKind}
use Rattle.vdm_lexer.specs.declared.lexeme.LexKind.TheVariants.{Identifier, Whole, Character, Text, Quote, Reserved, Sign, End}
use Rattle.vdm_lexer.specs.declared.written.WrittenKind.TheVariants as written
use Rattle.vdm_lexer.specs.Pieces.{first, begins}
use Rattle.vdm_lexer.specs.Written.{kind_in, words, signs, sign_texts}
use Rattle.lexeme_laws.specs.Alphabet.{is_white, is_decimal_digit, begins_word}
use Rattle.lexeme_laws.specs.Literals.{IsWord, IsString, IsCharacter, IsQuote}
use Rattle.lexeme_laws.specs.Longest.{IsLongest, NoFront}
use Rattle.lexeme_laws.specs.Numerals.{IsNumeral, IsWhole}

-- a sign of the table
abbrev pub IsSign : List ℕ → Type 0
IsSign piece = IsAmong sign_texts piece

-- a text that begins with nothing but a sign may: no blank, comment, word, numeral, character, string or quote
pub record IsSignPlace (text : List ℕ) : Type 0 where
  pub blank : is_white (first text) ≡ false
  pub line : begins text (codes "--") ≡ false
  pub block : begins text (codes "/*") ≡ false
  pub letter : begins_word (first text) ≡ false
  pub digit : is_decimal_digit (first text) ≡ false
  pub character : (first text == 39) ≡ false
  pub string : (first text == 34) ≡ false
  pub quote : NoFront IsQuote text
  pub begin : begins text (codes "\\begin{") ≡ false

pub record IsIdentifier (piece rest : List ℕ) : Type 0 where
  pub word : IsLongest IsWord piece rest
  pub unreserved : kind_in piece words ≡ Some written.Reserved → ⊥
  pub left_in : kind_in piece words ≡ Some written.LeftOut → ⊥

pub record IsReserved (piece rest : List ℕ) : Type 0 where
  pub word : IsLongest IsWord piece rest
  pub reserved : kind_in piece words ≡ Some written.Reserved

pub record IsWholeToken (piece rest : List ℕ) : Type 0 where
  pub numeral : IsLongest IsNumeral piece rest
  pub whole : IsWhole piece rest

pub record IsSignToken (piece rest : List ℕ) : Type 0 where
  pub place : IsSignPlace (piece ++ rest)
  pub sign : IsLongest IsSign piece rest
  pub left_in : kind_in piece signs ≡ Some written.Sign

abbrev pub IsToken : LexKind → List ℕ → List ℕ → Type 0
IsToken Identifier piece rest = IsIdentifier piece rest
IsToken Reserved piece rest = IsReserved piece rest
IsToken Whole piece rest = IsWholeToken piece rest
IsToken Character piece rest = IsCharacter piece
IsToken Text piece rest = IsString piece
IsToken Quote piece rest = IsQuote piece
IsToken Sign piece rest = IsSignToken piece rest
IsToken End piece rest = ⊥
