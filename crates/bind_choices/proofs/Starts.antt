-- All choices of lists, from the first on.
use Rattle.std.proofs.Common.{◌≡◌, ℕ, zero, suc, ◌+◌, Bool, true, false, List, [], ◌∷◌, ◌++◌, map, flat_map, length, drop, get_or, replicate, refl, ap, sym, ◌∙◌, arith, true≢false}
use Rattle.std.proofs.lemmas.Bool.{false≢true}
use Rattle.std.specs.List.{list_all, AllByRecursion as Each}
use Rattle.abstract_syntax.specs.Values.{ValueTree, nil}
use Rattle.bind_choices.specs.Choices.{choices_of, choice_at, choices_behind, choices_left, AreIndices, has_values}

-- where no list is empty, each has a value at index 0
pub first_indices : (lists : List (List ValueTree)) → list_all has_values lists ≡ true → AreIndices lists (replicate (length lists) 0)
first_indices [] h = tt
first_indices ([] ∷ lists) h = absurd (false≢true h)
first_indices ((v ∷ vs) ∷ lists) h = (omega arith, first_indices lists h)

pub all_first : (n : ℕ) → Each (λ (i : ℕ). i ≡ 0) (replicate n 0)
all_first zero = tt
all_first (suc n) = (refl, all_first n)

-- the first choice, and those behind it
pub from_first : (lists : List (List ValueTree)) (indices : List ℕ) → AreIndices lists indices → Each (λ i. i ≡ 0) indices →
    choice_at lists indices ∷ choices_behind lists indices ≡ choices_of lists
from_first [] [] stand first = refl
from_first [] (i ∷ indices) stand first = absurd stand
from_first (vs ∷ lists) [] stand first = absurd stand
from_first ([] ∷ lists) (i ∷ indices) stand first = absurd (omega (arith, stand.0))
from_first ((v ∷ vs) ∷ lists) (i ∷ indices) stand first =
    (λ k. (get_or (v ∷ vs) (first.0 k) nil ∷ choice_at lists indices) ∷
    (map (λ choice. get_or (v ∷ vs) (first.0 k) nil ∷ choice) (choices_behind lists indices) ++
    flat_map (λ w. map (λ choice. w ∷ choice) (choices_of lists)) (drop (first.0 k + 1) (v ∷ vs)))) ∙
    ap (λ choices. map (λ choice. v ∷ choice) choices ++ flat_map (λ w. map (λ choice. w ∷ choice) (choices_of lists)) vs)
    (from_first lists indices stand.1 first.1)

no_choices : (vs : List ValueTree) → flat_map (λ v. map (λ (choice : List ValueTree). v ∷ choice) []) vs ≡ []
no_choices [] = refl
no_choices (v ∷ vs) = no_choices vs

-- where a list is empty, there is no choice
pub none_of_empty : (lists : List (List ValueTree)) → list_all has_values lists ≡ false → choices_of lists ≡ []
none_of_empty [] h = absurd (true≢false h)
none_of_empty ([] ∷ lists) h = refl
none_of_empty ((v ∷ vs) ∷ lists) h =
    ap (λ choices. flat_map (λ w. map (λ choice. w ∷ choice) choices) (v ∷ vs)) (none_of_empty lists h) ∙ no_choices (v ∷ vs)

-- all choices are left where the first is next
pub all_left : (lists : List (List ValueTree)) (has_next : Bool) → has_next ≡ list_all has_values lists →
    choices_left lists (replicate (length lists) 0) has_next ≡ choices_of lists
all_left lists true h = from_first lists (replicate (length lists) 0) (first_indices lists (sym h)) (all_first (length lists))
all_left lists false h = sym (none_of_empty lists (sym h))
