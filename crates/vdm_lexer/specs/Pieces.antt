-- Pieces of a text.
use Rattle.std.specs.Prelude.{ℕ, Bool, true, false, ◌&&◌, ◌==◌, List, [], ◌∷◌, length, slice_index}

-- the first character of a text, or 0 where it is empty
abbrev pub first : List ℕ → ℕ
first text = slice_index text 0

-- whether a text begins with another
unfoldable pub begins : List ℕ → List ℕ → Bool
begins text [] = true
begins [] (d ∷ other) = false
begins (c ∷ text) (d ∷ other) = c == d && begins text other

-- whether a text is another
unfoldable pub is_text : List ℕ → List ℕ → Bool
is_text text other = length text == length other && begins text other
