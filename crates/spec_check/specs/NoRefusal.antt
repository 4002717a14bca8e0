-- That nothing was refused, as a test.
use Rattle.std.specs.Prelude.{Bool, true, false, List, [], ◌∷◌}

-- no refusal
abbrev pub is_fine : {A : Type 0} → List A → Bool
is_fine [] = true
is_fine (refused ∷ refusals) = false
