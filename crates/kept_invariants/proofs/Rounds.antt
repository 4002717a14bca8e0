-- A test of all elements of a list, one after another.
use Rattle.std.proofs.Common.{◌≡◌, ℕ, ◌+◌, ◌<◌, ◌≤◌, Bool, true, false, ◌&&◌, List, [], ◌∷◌, length, get_or, drop, ap, sym, ◌∙◌}
use Rattle.std.proofs.lemmas.List.{drop_more, drop_all}

module _ {X : Type 0} (all : List X → Bool) (one : X → Bool) (steps : (x : X) (xs : List X) → all (x ∷ xs) ≡ (one x && all xs)) where
  module _ (xs : List X) (i : ℕ) (x other : X) (below : i < length xs) (is : x ≡ get_or xs i other) (so_far : all (drop i xs) ≡ all xs) where
    here : all xs ≡ (one x && all (drop (i + 1) xs))
    here =
        sym so_far ∙ ap all (drop_more xs i other below)
        ∙ ap (λ (y : X). all (y ∷ drop (i + 1) xs)) (sym is)
        ∙ steps x (drop (i + 1) xs)

    -- one that fails
    pub stops : (b : Bool) → b ≡ one x → b ≡ false → false ≡ all xs
    stops b says fails = sym (here ∙ ap (λ (c : Bool). c && all (drop (i + 1) xs)) (sym says ∙ fails))

    -- one that passes
    pub goes_on : (b : Bool) → b ≡ one x → b ≡ true → all (drop (i + 1) xs) ≡ all xs
    goes_on b says passes = sym (here ∙ ap (λ (c : Bool). c && all (drop (i + 1) xs)) (sym says ∙ passes))

  -- none is left
  pub ended : (xs : List X) (i : ℕ) → all [] ≡ true → length xs ≤ i → all (drop i xs) ≡ all xs → true ≡ all xs
  ended xs i none past so_far = sym (sym so_far ∙ ap all (drop_all i xs past) ∙ none)
