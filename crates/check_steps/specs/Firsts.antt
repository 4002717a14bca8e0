-- The first of a list, and what stands behind it.
use Rattle.std.proofs.Common.{◌≡◌, ℕ, zero, suc, ◌-◌, ◌≤◌, ◌<◌, ◌+◌, List, [], ◌∷◌, take, drop, length, map, get_or, refl, ap, sym, ◌∙◌, arith, add-one}
use Rattle.std.proofs.lemmas.List.{take_rest}

pub none_left : {A : Type 0} (xs : List A) → length xs < 1 → xs ≡ []
none_left [] below = refl
none_left (x ∷ xs) below = absurd (omega (arith, below))

pub first_and_rest : {A : Type 0} (xs : List A) (x : A) → 1 ≤ length xs → x ≡ get_or xs 0 x → xs ≡ x ∷ take (length xs - 1) (drop 1 xs)
first_and_rest [] x some is = absurd (omega (arith, some))
first_and_rest (y ∷ ys) x some is = (λ i. sym is i ∷ ys) ∙ ap (λ (rest : List _). x ∷ rest) (sym (take_rest (y ∷ ys) 1))

mapped_at : {A B : Type 0} (f : A → B) (xs : List A) (i : ℕ) (x : A) → i < length xs → x ≡ get_or xs i x
    → drop i (map f xs) ≡ f x ∷ drop (suc i) (map f xs)
mapped_at f [] i x below is = absurd (omega (arith, below))
mapped_at f (y ∷ ys) zero x below is = ap (λ z. f z ∷ map f ys) (sym is)
mapped_at f (y ∷ ys) (suc i) x below is = mapped_at f ys i x (omega (arith, below)) is

-- the element at a number, as a table of all shows it
pub next_mapped : {A B : Type 0} (f : A → B) (ys xs : List A) (i : ℕ) (x : A) → ys ≡ xs → i < length ys → x ≡ get_or ys i x
    → drop i (map f xs) ≡ f x ∷ drop (i + 1) (map f xs)
next_mapped f ys xs i x same below is =
    ap (λ (zs : List _). drop i (map f zs)) (sym same)
    ∙ mapped_at f ys i x below is
    ∙ (λ j. f x ∷ drop (sym (add-one i) j) (map f (same j)))

past_at : {A B : Type 0} (f : A → B) (xs : List A) (i : ℕ) → length xs ≤ i → drop i (map f xs) ≡ []
past_at f [] zero past = refl
past_at f [] (suc i) past = refl
past_at f (y ∷ ys) zero past = absurd (omega (arith, past))
past_at f (y ∷ ys) (suc i) past = past_at f ys i (omega (arith, past))

-- nothing stands behind the last
pub past_mapped : {A B : Type 0} (f : A → B) (ys xs : List A) (i : ℕ) → ys ≡ xs → length ys ≤ i → drop i (map f xs) ≡ []
past_mapped f ys xs i same past = ap (λ (zs : List _). drop i (map f zs)) (sym same) ∙ past_at f ys i past
