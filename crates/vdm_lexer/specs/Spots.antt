-- Where something stands in a text: by line and column, and by the bytes before it.
use Rattle.std.specs.Prelude.{ℕ, ◌+◌, ◌==◌, List, [], ◌∷◌, if◌then◌else◌}
use Rattle.std.specs.Char.{len_utf8}
use Rattle.vdm_kinds.specs.declared.part.Part.{Part}
use Rattle.vdm_kinds.specs.declared.place.Place.{Place}
use Rattle.vdm_lexer.specs.declared.spot.Spot.{Spot}

-- the place of a text's first character
abbrev pub start_of : Part → Place
start_of part = record { part = part; line = 1; column = 1 }

-- the place after a character: a line feed (10) ends its line
abbrev pub after : Place → ℕ → Place
after place c =
    if c == 10 then record { part = place.part; line = place.line + 1; column = 1 }
    else record { part = place.part; line = place.line; column = place.column + 1 }

-- the place after characters
abbrev pub after_all : Place → List ℕ → Place
after_all place [] = place
after_all place (c ∷ cs) = after_all (after place c) cs

-- how many bytes characters have
abbrev pub bytes_of : List ℕ → ℕ
bytes_of [] = 0
bytes_of (c ∷ cs) = len_utf8 c + bytes_of cs

-- the spot after a character
abbrev pub spot_after : Spot → ℕ → Spot
spot_after spot c = record { offset = spot.offset + len_utf8 c; place = after spot.place c }
