-- Which fault a text begins with, and how many characters stand before it.
use Rattle.std.specs.Prelude.{◌≡◌, ℕ, ◌+◌, List, ◌∷◌, ◌++◌, length, codes, Some}
use Rattle.vdm_kinds.specs.declared.spec_kind.SpecKind.{SpecKind}
use Rattle.vdm_kinds.specs.declared.spec_kind.SpecKind.TheVariants.{LexFault, LeftOut}
use Rattle.vdm_lexer.specs.declared.written.WrittenKind.TheVariants as written
use Rattle.vdm_lexer.specs.Written.{kind_in, words, signs}
use Rattle.lexeme_laws.specs.Literals.{IsWord, IsEscape, IsUnit, IsKept, IsClosed, IsCharacter}
use Rattle.lexeme_laws.specs.Longest.{IsMadeOf, IsLongest, NoFront}
use Rattle.lexeme_laws.specs.Numerals.{IsNumeral, IsLeftOutNumeral}
use Rattle.lexeme_laws.specs.Spaces.{IsBlockComment}
use Rattle.lexeme_laws.specs.Tokens.{IsSign, IsSignPlace}

-- `'` and a `\` that begins no escape, where a `'` closes behind it
pub record IsRefusedCharacter (text : List ℕ) : Type 0 where
  pub behind : List ℕ
  pub is : text ≡ 39 ∷ 92 ∷ behind
  pub refused : NoFront IsEscape (92 ∷ behind)
  pub closed : IsClosed 39 (92 ∷ behind)

-- `"`, characters and escapes, and a `\` that begins no escape, where a `"` closes behind it
pub record IsRefusedString (text front : List ℕ) : Type 0 where
  pub behind : List ℕ
  pub others : List ℕ
  pub is : text ≡ 34 ∷ ((front ++ 92 ∷ behind) ++ 34 ∷ others)
  pub kept : IsMadeOf (IsKept 34) (front ++ 92 ∷ behind)
  pub units : IsMadeOf IsUnit front
  pub refused : NoFront IsEscape (92 ∷ behind)

-- a comment, a string or a character that is not closed; a `\` that begins no escape; `\begin{`; a character that begins nothing
pub data IsLexFault (text : List ℕ) (n : ℕ) : Type 0 where
  comment : (behind : List ℕ) → text ≡ codes "/*" ++ behind → NoFront IsBlockComment text → n ≡ 0 → IsLexFault text n
  string : (behind : List ℕ) → text ≡ 34 ∷ behind → (IsClosed 34 behind → ⊥) → n ≡ 0 → IsLexFault text n
  string_escape : (front : List ℕ) → IsRefusedString text front → n ≡ length front + 1 → IsLexFault text n
  character : (behind : List ℕ) → text ≡ 39 ∷ behind → NoFront IsCharacter text → (IsRefusedCharacter text → ⊥) → n ≡ 0
      → IsLexFault text n
  character_escape : IsRefusedCharacter text → n ≡ 1 → IsLexFault text n
  begin : (behind : List ℕ) → text ≡ codes "\\begin{" ++ behind → n ≡ 0 → IsLexFault text n
  other : (c : ℕ) (behind : List ℕ) → text ≡ c ∷ behind → IsSignPlace text → NoFront IsSign text → n ≡ 0 → IsLexFault text n

-- the longest word, numeral or sign that stands there is left out of the language
pub data IsLeftOut (text : List ℕ) : Type 0 where
  word : (piece rest : List ℕ) → text ≡ piece ++ rest → IsLongest IsWord piece rest
      → kind_in piece words ≡ Some written.LeftOut → IsLeftOut text
  numeral : (piece rest : List ℕ) → text ≡ piece ++ rest → IsLongest IsNumeral piece rest
      → IsLeftOutNumeral piece rest → IsLeftOut text
  sign : (piece rest : List ℕ) → text ≡ piece ++ rest → IsSignPlace text → IsLongest IsSign piece rest
      → kind_in piece signs ≡ Some written.LeftOut → IsLeftOut text

-- a fault that a text begins with, behind so many characters
pub data IsFault (text : List ℕ) (kind : SpecKind) (n : ℕ) : Type 0 where
  lexical : kind ≡ LexFault → IsLexFault text n → IsFault text kind n
  left_out : kind ≡ LeftOut → n ≡ 0 → IsLeftOut text → IsFault text kind n
