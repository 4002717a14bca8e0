-- Escapes: a `\` and what stands for a character behind it.
use Rattle.std.specs.Prelude.{ℕ, Bool, ◌&&◌, ◌||◌, ◌==◌, nat_lt, if◌then◌else◌, List, drop, take, Option, Some, None}
use Rattle.std.specs.List.{prefix_len}
use Rattle.std.specs.Str.Parse.{digits_value}
use Rattle.vdm_lexer.specs.Characters.{is_hexadecimal}
use Rattle.vdm_lexer.specs.Pieces.{first}

-- the characters that make an escape alone: `\`, `"`, `'`, `n`, `r`, `t`, `f`, `e`, `a`
abbrev pub is_plain_escape : ℕ → Bool
is_plain_escape c = c == 92 || c == 34 || c == 39 || c == 110 || c == 114 || c == 116 || c == 102 || c == 101 || c == 97

-- whether a text begins with two hexadecimal digits, with four
abbrev pub are_two : List ℕ → Bool
are_two text = prefix_len is_hexadecimal (take 2 text) == 2

abbrev pub are_four : List ℕ → Bool
are_four text = prefix_len is_hexadecimal (take 4 text) == 4

-- whether four digits give a character: the numbers from D800 to DFFF are none
abbrev pub is_scalar : List ℕ → Bool
is_scalar digits = nat_lt (digits_value 16 digits) 0xd800 || nat_lt 0xdfff (digits_value 16 digits)

-- how many characters behind a `\` make an escape with it
abbrev pub escape_length : List ℕ → Option ℕ
escape_length text =
    if is_plain_escape (first text) then Some 1
    else if first text == 120 && are_two (drop 1 text) then Some 3
    else if first text == 117 && are_four (drop 1 text) && is_scalar (take 4 (drop 1 text)) then Some 5
    else None
