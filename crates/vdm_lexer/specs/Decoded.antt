-- The characters of the bytes of a text.
use Rattle.std.specs.Prelude.{ℕ, nat_lt, if◌then◌else◌, List, ◌++◌, length, take, drop, map}
use Rattle.std.specs.Str.{chars}
use Rattle.std.specs.Str.Lossy.{utf8_valid_len}

-- what stands for a byte where the text is not UTF-8: of ASCII its character, for any other byte one that begins no lexeme
abbrev pub stand_in : ℕ → ℕ
stand_in b = if nat_lt b 128 then b else 0xfffd

-- the characters of a text: those before the first byte that is not UTF-8, and from there on one for each byte
abbrev pub characters : List ℕ → List ℕ
characters text = chars (take (utf8_valid_len text) text) ++ map stand_in (drop (utf8_valid_len text) text)

-- how many of them stand before the first byte that is not UTF-8
abbrev pub good : List ℕ → ℕ
good text = length (chars (take (utf8_valid_len text) text))
