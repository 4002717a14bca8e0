-- The choices that patterns leave open, in the order in which they are tried.
use Rattle.std.specs.Prelude.{List, [], ◌∷◌, map}

-- each item of a list with the others, from the first item on
abbrev pub choices : {A : Type 0} → List A → List (A × List A)
choices [] = []
choices (x ∷ xs) = (x, xs) ∷ map (λ c. (c.0, x ∷ c.1)) (choices xs)

-- each front of a list with the rest, the shortest front first
abbrev pub splits : {A : Type 0} → List A → List (List A × List A)
splits [] = ([], []) ∷ []
splits (x ∷ xs) = ([], x ∷ xs) ∷ map (λ s. (x ∷ s.0, s.1)) (splits xs)
