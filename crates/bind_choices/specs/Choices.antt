-- The choices of one value of each of several lists, and which of them are left.
use Rattle.std.specs.Prelude.{ℕ, ◌+◌, ◌<◌, Bool, true, false, List, [], ◌∷◌, ◌++◌, map, drop, get_or, length, if◌then◌else◌}
use Rattle.std.specs.List.{flat_map, zip, AllZip}
use Rattle.abstract_syntax.specs.Values.{ValueTree, nil}

-- the choices of one value of each list, the first varying slowest
abbrev pub choices_of : List (List ValueTree) → List (List ValueTree)
choices_of [] = [] ∷ []
choices_of (vs ∷ lists) = flat_map (λ v. map (λ choice. v ∷ choice) (choices_of lists)) vs

-- the choice of the value of each list at its index
abbrev pub choice_at : List (List ValueTree) → List ℕ → List ValueTree
choice_at lists indices = map (λ p. get_or p.0 p.1 nil) (zip lists indices)

-- the choices behind all those that begin with the values at the indices, which may be fewer than the lists
abbrev pub choices_behind : List (List ValueTree) → List ℕ → List (List ValueTree)
choices_behind lists [] = []
choices_behind [] (i ∷ indices) = []
choices_behind (vs ∷ lists) (i ∷ indices) =
    map (λ choice. get_or vs i nil ∷ choice) (choices_behind lists indices) ++
    flat_map (λ v. map (λ choice. v ∷ choice) (choices_of lists)) (drop (i + 1) vs)

-- the choices that are left: where one is next, that at the indices and those behind it
abbrev pub choices_left : List (List ValueTree) → List ℕ → Bool → List (List ValueTree)
choices_left lists indices has_next = if has_next then choice_at lists indices ∷ choices_behind lists indices else []

-- each list has a value at its index
abbrev pub AreIndices : List (List ValueTree) → List ℕ → Type 0
AreIndices lists indices = AllZip (λ vs i. i < length vs) lists indices

-- a list is not empty
abbrev pub has_values : List ValueTree → Bool
has_values [] = false
has_values (v ∷ vs) = true
