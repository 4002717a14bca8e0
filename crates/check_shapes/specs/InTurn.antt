-- Every other element of a list, with the first or without.
use Rattle.std.specs.Prelude.{Bool, true, false, List, [], ◌∷◌}

abbrev pub in_turn : {A : Type 0} → Bool → List A → List A
in_turn first [] = []
in_turn true (x ∷ xs) = x ∷ in_turn false xs
in_turn false (x ∷ xs) = in_turn true xs
