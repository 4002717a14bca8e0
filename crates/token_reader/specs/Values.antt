-- What literals stand for.
use Rattle.std.specs.Prelude.{ℕ, zero, suc, ◌-◌, Bool, ◌&&◌, ◌||◌, ◌==◌, nat_lt, if◌then◌else◌, List, [], ◌∷◌, length, take, drop}
use Rattle.std.specs.Str.Parse.{digits_value}
use Rattle.vdm_lexer.specs.Pieces.{first}

-- whether a text begins with `0` (48) and `x` (120)
abbrev pub is_hexadecimal : List ℕ → Bool
is_hexadecimal piece = first piece == 48 && first (drop 1 piece) == 120

-- a whole literal: hexadecimal digits behind `0x`, or decimal digits
abbrev pub whole_value : List ℕ → ℕ
whole_value piece = if is_hexadecimal piece then digits_value 16 (drop 2 piece) else digits_value 10 piece

-- what stands between the first and the last character
abbrev pub between : List ℕ → List ℕ
between piece = take (length piece - 2) (drop 1 piece)

-- the character with a number; no lexeme has a number that is none, for which U+FFFD stands
abbrev pub character_of : ℕ → ℕ
character_of n = if nat_lt n 0xd800 || (nat_lt 0xdfff n && nat_lt n 0x110000) then n else 0xfffd

-- how many characters behind a `\` belong to it: `x` (120) and two digits, `u` (117) and four, or one
abbrev pub escape_length : ℕ → ℕ
escape_length c = if c == 120 then 3 else if c == 117 then 5 else 1

-- what they stand for with it: `n` (110) is a line feed, `r` (114) a carriage return, `t` (116) a tab, `f` (102) 12, `e` (101) 27,
-- `a` (97) 7; any other character stands for itself
abbrev pub plain_value : ℕ → ℕ
plain_value c =
    if c == 110 then 10
    else if c == 114 then 13
    else if c == 116 then 9
    else if c == 102 then 12
    else if c == 101 then 27
    else if c == 97 then 7
    else c

abbrev pub escape_value : List ℕ → ℕ
escape_value text =
    if first text == 120 then character_of (digits_value 16 (take 2 (drop 1 text)))
    else if first text == 117 then character_of (digits_value 16 (take 4 (drop 1 text)))
    else plain_value (first text)

-- the characters that a text stands for, of which the first so many belong to a `\` (92) before it
abbrev pub decoded_behind : ℕ → List ℕ → List ℕ
decoded_behind skipped [] = []
decoded_behind (suc skipped) (c ∷ cs) = decoded_behind skipped cs
decoded_behind zero (c ∷ cs) =
    if c == 92 then escape_value cs ∷ decoded_behind (escape_length (first cs)) cs
    else c ∷ decoded_behind zero cs

-- a string literal, and a character literal
abbrev pub text_value : List ℕ → List ℕ
text_value piece = decoded_behind 0 (between piece)

abbrev pub character_value : List ℕ → ℕ
character_value piece = first (text_value piece)
