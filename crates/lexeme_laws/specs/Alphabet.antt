-- What characters are called.
use Rattle.std.specs.Prelude.{ℕ, Bool, ◌||◌, ◌==◌, not}
use Rattle.std.specs.Char.{is_digit}
use Rattle.unicode_ident.specs.Ident.{is_xid_start, is_xid_continue}

-- a space, a tab, a line feed, a carriage return
abbrev pub is_white : ℕ → Bool
is_white c = c == 32 || c == 9 || c == 10 || c == 13

-- any but a line feed
abbrev pub is_in_line : ℕ → Bool
is_in_line c = not (c == 10)

abbrev pub is_decimal_digit : ℕ → Bool
is_decimal_digit c = is_digit c 10

abbrev pub is_hexadecimal_digit : ℕ → Bool
is_hexadecimal_digit c = is_digit c 16

-- a character of XID_Start
abbrev pub begins_word : ℕ → Bool
begins_word c = is_xid_start c

-- a character of XID_Continue, to which `_` belongs, or `'` (39)
abbrev pub is_in_word : ℕ → Bool
is_in_word c = is_xid_continue c || c == 39

-- `\` (92), `"`, `'`, `n`, `r`, `t`, `f`, `e`, `a`
abbrev pub is_escaped_alone : ℕ → Bool
is_escaped_alone c = c == 92 || c == 34 || c == 39 || c == 110 || c == 114 || c == 116 || c == 102 || c == 101 || c == 97
