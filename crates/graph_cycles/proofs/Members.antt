-- Which numbers stand in a list, and what a test says of them.
use Rattle.std.proofs.Common.{◌≡◌, ℕ, zero, suc, ◌<◌, Bool, true, false, ◌||◌, ◌&&◌, ◌⊎◌, inl, inr, ⊎_elim, List, [], ◌∷◌, ◌++◌, length, get_or, nat_eq, eqb-true, eq-eqb, true≢false, refl, sym, subst, ◌∙◌, arith}
use Rattle.std.specs.List.{list_any, list_all, AllByRecursion}
use Rattle.std.proofs.lemmas.Bool.{cases_Bool}
use Rattle.graph_cycles.specs.Graphs.{is_in}

pub not_both : {b : Bool} {A : Type 0} → b ≡ true → b ≡ false → A
not_both t f = absurd (true≢false (sym t ∙ f))

pub or_left : (a b : Bool) → a ≡ true → (a || b) ≡ true
or_left true b t = refl
or_left false b t = not_both t refl

pub or_right : (a b : Bool) → b ≡ true → (a || b) ≡ true
or_right true b t = refl
or_right false b t = t

pub or_cases : (a b : Bool) → (a || b) ≡ true → (a ≡ true) ⊎ (b ≡ true)
or_cases true b t = inl refl
or_cases false b t = inr t

pub or_not_left : (a b : Bool) → (a || b) ≡ false → a ≡ false
or_not_left true b f = f
or_not_left false b f = refl

pub or_not_right : (a b : Bool) → (a || b) ≡ false → b ≡ false
or_not_right true b f = not_both refl f
or_not_right false b f = f

pub and_both : (a b : Bool) → a ≡ true → b ≡ true → (a && b) ≡ true
and_both true b t u = u
and_both false b t u = t

pub and_left : (a b : Bool) → (a && b) ≡ true → a ≡ true
and_left true b t = refl
and_left false b t = t

pub and_right : (a b : Bool) → (a && b) ≡ true → b ≡ true
and_right true b t = t
and_right false b t = not_both t refl

pub and_cases : (a b : Bool) → (a && b) ≡ false → (a ≡ false) ⊎ (b ≡ false)
and_cases true b f = inr f
and_cases false b f = inl refl

-- two tests that hold alike are equal
pub same_test : (a b : Bool) → (a ≡ true → b ≡ true) → (b ≡ true → a ≡ true) → a ≡ b
same_test true b to from = sym (to refl)
same_test false true to from = from refl
same_test false false to from = refl

pub itself : (a : ℕ) → nat_eq a a ≡ true
itself a = eq-eqb a a refl

-- an element that passes, and what each element does
pub some_in : (p : ℕ → Bool) (xs : List ℕ) → list_any p xs ≡ true → (x : ℕ) × (is_in xs x ≡ true) × (p x ≡ true)
some_in p [] t = not_both t refl
some_in p (x ∷ xs) t = ⊎_elim
    (λ here. (x, or_left (nat_eq x x) (is_in xs x) (itself x), here))
    (λ later. let r = some_in p xs later in (r.0, or_right (nat_eq r.0 x) (is_in xs r.0) r.1, r.2))
    (or_cases (p x) (list_any p xs) t)

pub any_from : (p : ℕ → Bool) (xs : List ℕ) (a : ℕ) → is_in xs a ≡ true → p a ≡ true → list_any p xs ≡ true
any_from p [] a is t = is
any_from p (x ∷ xs) a is t = ⊎_elim
    (λ here. or_left (p x) (list_any p xs) (subst (λ (y : ℕ). p y ≡ true) (eqb-true a x here) t))
    (λ later. or_right (p x) (list_any p xs) (any_from p xs a later t))
    (or_cases (nat_eq a x) (is_in xs a) is)

pub all_from : (p : ℕ → Bool) (xs : List ℕ) → ((a : ℕ) → is_in xs a ≡ true → p a ≡ true) → list_all p xs ≡ true
all_from p [] each = refl
all_from p (x ∷ xs) each =
    and_both (p x) (list_all p xs) (each x (or_left (nat_eq x x) (is_in xs x) (itself x)))
    (all_from p xs (λ a is. each a (or_right (nat_eq a x) (is_in xs a) is)))

pub each_of : (p : ℕ → Bool) (xs : List ℕ) (a : ℕ) → list_all p xs ≡ true → is_in xs a ≡ true → p a ≡ true
each_of p [] a all is = not_both is refl
each_of p (x ∷ xs) a all is = ⊎_elim
    (λ here. subst (λ (y : ℕ). p y ≡ true) (sym (eqb-true a x here)) (and_left (p x) (list_all p xs) all))
    (λ later. each_of p xs a (and_right (p x) (list_all p xs) all) later)
    (or_cases (nat_eq a x) (is_in xs a) is)

pub some_not : (p : ℕ → Bool) (xs : List ℕ) → list_all p xs ≡ false → (x : ℕ) × (is_in xs x ≡ true) × (p x ≡ false)
some_not p [] f = not_both refl f
some_not p (x ∷ xs) f = ⊎_elim
    (λ here. (x, or_left (nat_eq x x) (is_in xs x) (itself x), here))
    (λ later. let r = some_not p xs later in (r.0, or_right (nat_eq r.0 x) (is_in xs r.0) r.1, r.2))
    (and_cases (p x) (list_all p xs) f)

pub not_all : (p : ℕ → Bool) (xs : List ℕ) (a : ℕ) → is_in xs a ≡ true → p a ≡ false → list_all p xs ≡ false
not_all p xs a is f = ⊎_elim
    (λ t. not_both (each_of p xs a t is) f)
    (λ e. e)
    (cases_Bool (list_all p xs))

-- the element at a place is in the list, and what is in it has a place
pub is_in-at : (xs : List ℕ) (k d : ℕ) → k < length xs → is_in xs (get_or xs k d) ≡ true
is_in-at [] k d l = absurd (omega arith)
is_in-at (x ∷ xs) zero d l = or_left (nat_eq x x) (is_in xs x) (itself x)
is_in-at (x ∷ xs) (suc k) d l = or_right (nat_eq (get_or xs k d) x) (is_in xs (get_or xs k d)) (is_in-at xs k d (omega arith))

pub place_of : (xs : List ℕ) (a : ℕ) → is_in xs a ≡ true → (k : ℕ) × (k < length xs) × ((d : ℕ) → get_or xs k d ≡ a)
place_of [] a is = not_both is refl
place_of (x ∷ xs) a is = ⊎_elim
    (λ here. (0, omega arith, λ d. sym (eqb-true a x here)))
    (λ later. let r = place_of xs a later in (suc r.0, omega (arith, r.1), r.2))
    (or_cases (nat_eq a x) (is_in xs a) is)

pub is_in-append : (xs ys : List ℕ) (a : ℕ) → is_in (xs ++ ys) a ≡ (is_in xs a || is_in ys a)
is_in-append [] ys a = refl
is_in-append (x ∷ xs) ys a = by (nat_eq a x) (is_in-append xs ys a)
  where
    by : (b : Bool) → is_in (xs ++ ys) a ≡ (is_in xs a || is_in ys a) → (b || is_in (xs ++ ys) a) ≡ ((b || is_in xs a) || is_in ys a)
    by true rest = refl
    by false rest = rest

pub apart_from : (xs : List ℕ) (a : ℕ) → is_in xs a ≡ false → AllByRecursion (λ y. nat_eq a y ≡ false) xs
apart_from [] a f = tt
apart_from (x ∷ xs) a f = (or_not_left (nat_eq a x) (is_in xs a) f, apart_from xs a (or_not_right (nat_eq a x) (is_in xs a) f))
