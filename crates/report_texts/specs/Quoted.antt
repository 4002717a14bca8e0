-- Characters between quote signs.
use Rattle.std.specs.Prelude.{ℕ, ◌/◌, ◌%◌, ◌==◌, ◌||◌, nat_lt, if◌then◌else◌, List, [], ◌∷◌, ◌++◌}
use Rattle.std.specs.Char.{encode_utf8, digit_char}

-- `\x` and two lower-case hexadecimal digits
abbrev pub code_text : ℕ → List ℕ
code_text c = 92 ∷ 120 ∷ digit_char (c / 16) ∷ digit_char (c % 16) ∷ []

-- The bytes of a character between two such signs. `\` is `\\`, the sign has a `\` before it, line feed, carriage return and
-- tab are `\n`, `\r` and `\t`, other characters below 32 and 127 are their code; all others stand as they are.
abbrev pub escaped : ℕ → ℕ → List ℕ
escaped sign c =
    if c == 92 then 92 ∷ 92 ∷ []
    else if c == sign then 92 ∷ encode_utf8 sign
    else if c == 10 then 92 ∷ 110 ∷ []
    else if c == 13 then 92 ∷ 114 ∷ []
    else if c == 9 then 92 ∷ 116 ∷ []
    else if nat_lt c 32 || c == 127 then code_text c
    else encode_utf8 c

-- as `'a'`
abbrev pub character_text : ℕ → List ℕ
character_text c = 39 ∷ escaped 39 c ++ 39 ∷ []
