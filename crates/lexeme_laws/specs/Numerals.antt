-- Numerals.
use Rattle.std.specs.Prelude.{◌≡◌, ℕ, ◌^◌, ◌<◌, ◌≤◌, ◌⊎◌, true, List, ◌∷◌, ◌++◌, codes, drop}
use Rattle.std.specs.Str.Parse.{digits_value}
use Rattle.lexeme_laws.specs.Alphabet.{is_decimal_digit, is_hexadecimal_digit}
use Rattle.lexeme_laws.specs.Longest.{AreAll}

-- a decimal digit or more
pub record IsDecimal (piece : List ℕ) : Type 0 where
  pub digit : ℕ
  pub others : List ℕ
  pub is : piece ≡ digit ∷ others
  pub all : AreAll is_decimal_digit (digit ∷ others)

-- `0x` and a hexadecimal digit or more
pub record IsHexadecimal (piece : List ℕ) : Type 0 where
  pub digit : ℕ
  pub others : List ℕ
  pub is : piece ≡ codes "0x" ++ (digit ∷ others)
  pub all : AreAll is_hexadecimal_digit (digit ∷ others)

pub data IsNumeral (piece : List ℕ) : Type 0 where
  decimal : IsDecimal piece → IsNumeral piece
  hexadecimal : IsHexadecimal piece → IsNumeral piece

-- `e` (101) or `E` (69); `+` (43) or `-` (45)
abbrev pub IsE : ℕ → Type 0
IsE c = (c ≡ 101) ⊎ (c ≡ 69)

abbrev pub IsPlusOrMinus : ℕ → Type 0
IsPlusOrMinus c = (c ≡ 43) ⊎ (c ≡ 45)

-- behind decimal digits a fraction or an exponent goes on: `.` (46) and a digit, or `e`, a sign or none, and a digit
pub data GoesOn (rest : List ℕ) : Type 0 where
  fraction : (digit : ℕ) (behind : List ℕ) → rest ≡ 46 ∷ digit ∷ behind → is_decimal_digit digit ≡ true → GoesOn rest
  exponent : (e digit : ℕ) (behind : List ℕ) → rest ≡ e ∷ digit ∷ behind → IsE e → is_decimal_digit digit ≡ true → GoesOn rest
  signed : (e sign digit : ℕ) (behind : List ℕ) → rest ≡ e ∷ sign ∷ digit ∷ behind → IsE e → IsPlusOrMinus sign
      → is_decimal_digit digit ≡ true → GoesOn rest

-- a numeral for at most 2^127 - 1, behind which nothing of it goes on
pub data IsWhole (piece rest : List ℕ) : Type 0 where
  decimal : IsDecimal piece → (GoesOn rest → ⊥) → digits_value 10 piece < 2 ^ 127 → IsWhole piece rest
  hexadecimal : IsHexadecimal piece → digits_value 16 (drop 2 piece) < 2 ^ 127 → IsWhole piece rest

-- a numeral that is left out of the language: it goes on as a fraction or with an exponent, or it is too great
pub data IsLeftOutNumeral (piece rest : List ℕ) : Type 0 where
  longer : IsDecimal piece → GoesOn rest → IsLeftOutNumeral piece rest
  great : IsDecimal piece → 2 ^ 127 ≤ digits_value 10 piece → IsLeftOutNumeral piece rest
  great_hexadecimal : IsHexadecimal piece → 2 ^ 127 ≤ digits_value 16 (drop 2 piece) → IsLeftOutNumeral piece rest
