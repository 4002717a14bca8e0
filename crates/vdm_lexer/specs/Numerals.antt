-- The numerals of a text: whole literals, and literals that are left out.
use Rattle.std.specs.Prelude.{ℕ, ◌+◌, ◌^◌, Bool, ◌&&◌, ◌||◌, ◌==◌, nat_lt, if◌then◌else◌, List, length, codes, drop, take}
use Rattle.std.specs.List.{prefix_len}
use Rattle.std.specs.Str.Parse.{digits_value}
use Rattle.vdm_kinds.specs.declared.spec_kind.SpecKind.TheVariants.{LeftOut}
use Rattle.vdm_lexer.specs.declared.lexeme.LexKind.TheVariants.{Whole}
use Rattle.vdm_lexer.specs.declared.front.Front.{Front}
use Rattle.vdm_lexer.specs.declared.front.Front.TheVariants.{Token, Fault}
use Rattle.vdm_lexer.specs.Characters.{is_decimal, is_hexadecimal}
use Rattle.vdm_lexer.specs.Pieces.{first, begins}

-- whether digits stand for at most 2^127 - 1
abbrev pub is_small : ℕ → List ℕ → Bool
is_small base digits = nat_lt (digits_value base digits) (2 ^ 127)

-- a whole literal of which so many characters stand behind its first; one that is too great is left out
abbrev pub whole_token : Bool → ℕ → Front
whole_token small more = if small then Token Whole more else Fault LeftOut 0

-- hexadecimal digits behind `0x`, which are some
abbrev pub hexadecimal_front : List ℕ → Front
hexadecimal_front digits = whole_token (is_small 16 digits) (length digits + 1)

-- whether a text goes on from digits as a fraction or as an exponent: `.` (46) and a digit; or `e` (101) or `E` (69), `+` (43) or
-- `-` (45) or neither, and a digit
abbrev pub is_fraction : List ℕ → Bool
is_fraction text = first text == 46 && is_decimal (first (drop 1 text))

abbrev pub is_signed_digit : List ℕ → Bool
is_signed_digit text = is_decimal (first text) || ((first text == 43 || first text == 45) && is_decimal (first (drop 1 text)))

abbrev pub is_exponent : List ℕ → Bool
is_exponent text = (first text == 101 || first text == 69) && is_signed_digit (drop 1 text)

-- decimal digits that a text begins with, of which so many stand behind the first
abbrev pub decimal_front : List ℕ → ℕ → Front
decimal_front text more =
    if is_fraction (drop (more + 1) text) || is_exponent (drop (more + 1) text) then Fault LeftOut 0
    else whole_token (is_small 10 (take (more + 1) text)) more

-- whether a text begins with `0x` and a hexadecimal digit
abbrev pub is_hexadecimal_literal : List ℕ → Bool
is_hexadecimal_literal text = begins text (codes "0x") && is_hexadecimal (first (drop 2 text))

-- the literal that a text begins with, where its first character is a decimal digit
abbrev pub numeral_front : List ℕ → Front
numeral_front text =
    if is_hexadecimal_literal text then hexadecimal_front (take (prefix_len is_hexadecimal (drop 2 text)) (drop 2 text))
    else decimal_front text (prefix_len is_decimal (drop 1 text))
