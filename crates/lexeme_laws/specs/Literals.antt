-- Words, and what stands between signs of its own: strings, characters, quotes. `"` is 34, `'` 39, `<` 60, `>` 62, `\` 92.
use Rattle.std.specs.Prelude.{◌≡◌, ℕ, ◌<◌, ◌⊎◌, ◌==◌, true, false, List, [], ◌∷◌, ◌++◌}
use Rattle.std.specs.Str.Parse.{digits_value}
use Rattle.lexeme_laws.specs.Alphabet.{is_hexadecimal_digit, begins_word, is_in_word, is_escaped_alone}
use Rattle.lexeme_laws.specs.Longest.{AreAll, IsMadeOf}

-- a letter, and characters that may follow in an identifier
pub record IsWord (piece : List ℕ) : Type 0 where
  pub letter : ℕ
  pub others : List ℕ
  pub is : piece ≡ letter ∷ others
  pub first : begins_word letter ≡ true
  pub of_word : AreAll is_in_word others

-- the number of a character: those from D800 to DFFF are none
abbrev pub IsScalar : ℕ → Type 0
IsScalar n = (n < 0xd800) ⊎ (0xdfff < n)

-- `\` and a character that makes an escape alone; or `x` (120) and two hexadecimal digits; or `u` (117) and four that give a character
pub data IsEscape (piece : List ℕ) : Type 0 where
  plain : (c : ℕ) → piece ≡ 92 ∷ c ∷ [] → is_escaped_alone c ≡ true → IsEscape piece
  two : (a b : ℕ) → piece ≡ 92 ∷ 120 ∷ a ∷ b ∷ [] → AreAll is_hexadecimal_digit (a ∷ b ∷ []) → IsEscape piece
  four : (a b c d : ℕ) → piece ≡ 92 ∷ 117 ∷ a ∷ b ∷ c ∷ d ∷ [] → AreAll is_hexadecimal_digit (a ∷ b ∷ c ∷ d ∷ [])
      → IsScalar (digits_value 16 (a ∷ b ∷ c ∷ d ∷ [])) → IsEscape piece

-- what stands for one character in a literal: a character but `\`, or an escape
pub data IsUnit (piece : List ℕ) : Type 0 where
  character : (c : ℕ) → piece ≡ c ∷ [] → (c == 92) ≡ false → IsUnit piece
  escape : IsEscape piece → IsUnit piece

-- a character but the sign and `\`, or `\` and any character
pub data IsKept (sign : ℕ) (piece : List ℕ) : Type 0 where
  character : (c : ℕ) → piece ≡ c ∷ [] → (c == sign) ≡ false → (c == 92) ≡ false → IsKept sign piece
  behind : (c : ℕ) → piece ≡ 92 ∷ c ∷ [] → IsKept sign piece

-- a sign stands there that neither is a `\` nor stands behind one
pub record IsClosed (sign : ℕ) (text : List ℕ) : Type 0 where
  pub inside : List ℕ
  pub others : List ℕ
  pub is : text ≡ inside ++ (sign ∷ others)
  pub kept : IsMadeOf (IsKept sign) inside

-- `"`, characters and escapes, and the first `"` that closes
pub record IsString (piece : List ℕ) : Type 0 where
  pub inside : List ℕ
  pub is : piece ≡ 34 ∷ (inside ++ 34 ∷ [])
  pub kept : IsMadeOf (IsKept 34) inside
  pub units : IsMadeOf IsUnit inside

-- `'`, one character or escape, and `'`
pub record IsCharacter (piece : List ℕ) : Type 0 where
  pub unit : List ℕ
  pub is : piece ≡ 39 ∷ (unit ++ 39 ∷ [])
  pub one : IsUnit unit

-- `<`, an identifier, and `>`
pub record IsQuote (piece : List ℕ) : Type 0 where
  pub word : List ℕ
  pub is : piece ≡ 60 ∷ (word ++ 62 ∷ [])
  pub named : IsWord word
