-- What a character may be part of.
use Rattle.std.specs.Prelude.{ℕ, Bool, ◌||◌, ◌==◌, nat_lt, not, if◌then◌else◌}
use Rattle.std.specs.Char.{is_ascii_alphabetic, is_ascii_alphanumeric, is_digit}
use Rattle.unicode_ident.specs.Ident.{is_xid_start, is_xid_continue}

-- space, tab, line feed, carriage return
abbrev pub is_blank : ℕ → Bool
is_blank c = c == 32 || c == 9 || c == 10 || c == 13

-- a character that a line may hold
abbrev pub is_of_line : ℕ → Bool
is_of_line c = not (c == 10)

abbrev pub is_decimal : ℕ → Bool
is_decimal c = is_digit c 10

abbrev pub is_hexadecimal : ℕ → Bool
is_hexadecimal c = is_digit c 16

-- a character that an identifier may begin with: of XID_Start, where ASCII has its letters alone
abbrev pub is_letter : ℕ → Bool
is_letter c = if nat_lt c 128 then is_ascii_alphabetic c else is_xid_start c

-- a character that may follow in an identifier: of XID_Continue, where ASCII has letters, digits and `_` (95); or `'` (39)
abbrev pub is_of_word : ℕ → Bool
is_of_word c = if nat_lt c 128 then is_ascii_alphanumeric c || c == 95 || c == 39 else is_xid_continue c
