-- What passes a test, one item more.
use Rattle.std.proofs.Common.{◌≡◌, ℕ, zero, suc, ◌+◌, ◌<◌, Bool, true, false, cond, List, [], ◌∷◌, ◌++◌, length, get_or, take, refl, ap, sym, ◌∙◌, arith, add-one, rules}
use Rattle.std.specs.List.{filter}

filter_next : {X : Type 0} (p : X → Bool) (xs : List X) (i : ℕ) (x : X) → i < length xs → filter p (take (suc i) xs) ≡ filter p (take i xs) ++ cond (p (get_or xs i x)) (get_or xs i x ∷ []) []
filter_next p [] i x h = absurd (omega arith)
filter_next p (y ∷ ys) zero x h = refl
filter_next p (y ∷ ys) (suc i) x h = by (p y) (filter_next p ys i x (omega arith))
  where
    by : (r : Bool) → filter p (take (suc i) ys) ≡ filter p (take i ys) ++ cond (p (get_or ys i x)) (get_or ys i x ∷ []) []
        → cond r (y ∷ filter p (take (suc i) ys)) (filter p (take (suc i) ys)) ≡ cond r (y ∷ filter p (take i ys)) (filter p (take i ys)) ++ cond (p (get_or ys i x)) (get_or ys i x ∷ []) []
    by true e = ap (λ zs. y ∷ zs) e
    by false e = e

pub filter_with : {X : Type 0} (p : X → Bool) (xs : List X) (i : ℕ) (x : X) → i < length xs → x ≡ get_or xs i x → p x ≡ true → filter p (take (i + 1) xs) ≡ filter p (take i xs) ++ x ∷ []
filter_with p xs i x h e t =
    ap (λ j. filter p (take j xs)) (add-one i) ∙ filter_next p xs i x h
    ∙ ap (λ y. filter p (take i xs) ++ cond (p y) (y ∷ []) []) (sym e)
    ∙ ap (λ r. filter p (take i xs) ++ cond r (x ∷ []) []) t

pub filter_without : {X : Type 0} (p : X → Bool) (xs : List X) (i : ℕ) (x : X) → i < length xs → x ≡ get_or xs i x → p x ≡ false → filter p (take (i + 1) xs) ≡ filter p (take i xs)
filter_without p xs i x h e t =
    ap (λ j. filter p (take j xs)) (add-one i) ∙ filter_next p xs i x h
    ∙ ap (λ y. filter p (take i xs) ++ cond (p y) (y ∷ []) []) (sym e)
    ∙ ap (λ r. filter p (take i xs) ++ cond r (x ∷ []) []) t ∙ search rules
