-- Which numbers stand in a list, and what a test says of them.
use Rattle.std.proofs.Common.{◌≡◌, ℕ, Bool, true, false, not, ◌||◌, ◌&&◌, ◌⊎◌, inl, inr, ⊎_elim, List, [], ◌∷◌, ◌++◌, map, nat_eq, eqb-true, eq-eqb, true≢false, refl, ap, sym, subst, ◌∙◌, arith}
use Rattle.std.specs.List.{list_any, list_all, flat_map, AllByRecursion}
use Rattle.std.proofs.lemmas.Bool.Decides.{nat_tests}

pub not_both : {b : Bool} {A : Type 0} → b ≡ true → b ≡ false → A
not_both t f = absurd (true≢false (sym t ∙ f))

pub or_left : (a b : Bool) → a ≡ true → (a || b) ≡ true
or_left true b t = refl
or_left false b t = not_both t refl

pub or_right : (a b : Bool) → b ≡ true → (a || b) ≡ true
or_right true b t = refl
or_right false b t = t

pub or_cases : (a b : Bool) → (a || b) ≡ true → (a ≡ true) ⊎ (b ≡ true)
or_cases true b t = inl refl
or_cases false b t = inr t

pub or_both : (a b : Bool) → a ≡ false → b ≡ false → (a || b) ≡ false
or_both true b f h = f
or_both false b f h = h

pub or_not_left : (a b : Bool) → (a || b) ≡ false → a ≡ false
or_not_left true b f = f
or_not_left false b f = refl

pub or_not_right : (a b : Bool) → (a || b) ≡ false → b ≡ false
or_not_right true b f = not_both refl f
or_not_right false b f = f

pub or_assoc : (a b c : Bool) → ((a || b) || c) ≡ (a || (b || c))
or_assoc true b c = refl
or_assoc false b c = refl

pub or_none : (a : Bool) → (a || false) ≡ a
or_none true = refl
or_none false = refl

pub and_both : (a b : Bool) → a ≡ true → b ≡ true → (a && b) ≡ true
and_both true b t u = u
and_both false b t u = t

pub and_left : (a b : Bool) → (a && b) ≡ true → a ≡ true
and_left true b t = refl
and_left false b t = t

pub and_right : (a b : Bool) → (a && b) ≡ true → b ≡ true
and_right true b t = t
and_right false b t = not_both t refl

pub not_true : (b : Bool) → not b ≡ true → b ≡ false
not_true true t = sym t
not_true false t = refl

-- two tests that hold alike are equal
pub same_test : (a b : Bool) → (a ≡ true → b ≡ true) → (b ≡ true → a ≡ true) → a ≡ b
same_test true b to from = sym (to refl)
same_test false true to from = from refl
same_test false false to from = refl

pub itself : (a : ℕ) → nat_eq a a ≡ true
itself a = eq-eqb a a refl

pub flipped : (a b : ℕ) → nat_eq a b ≡ nat_eq b a
flipped a b = grind (arith, nat_tests)

-- ---- an element that passes, and what each element does

module _ {A : Type 0} where
  pub any_agree : (p q : A → Bool) (xs : List A) → ((x : A) → p x ≡ q x) → list_any p xs ≡ list_any q xs
  any_agree p q [] each = refl
  any_agree p q (x ∷ xs) each = ap (λ (b : Bool). b || list_any p xs) (each x) ∙ ap (λ (b : Bool). q x || b) (any_agree p q xs each)

  pub any_never : (xs : List A) → list_any (λ (x : A). false) xs ≡ false
  any_never [] = refl
  any_never (x ∷ xs) = any_never xs

  pub any_append : (p : A → Bool) (xs ys : List A) → list_any p (xs ++ ys) ≡ (list_any p xs || list_any p ys)
  any_append p [] ys = refl
  any_append p (x ∷ xs) ys = ap (λ (b : Bool). p x || b) (any_append p xs ys) ∙ sym (or_assoc (p x) (list_any p xs) (list_any p ys))

  pub any_flat_map : {B : Type 0} (p : A → Bool) (f : B → List A) (xs : List B)
      → list_any p (flat_map f xs) ≡ list_any (λ (x : B). list_any p (f x)) xs
  any_flat_map p f [] = refl
  any_flat_map p f (x ∷ xs) = any_append p (f x) (flat_map f xs) ∙ ap (λ (b : Bool). list_any p (f x) || b) (any_flat_map p f xs)

pub some_in : (p : ℕ → Bool) (xs : List ℕ) → list_any p xs ≡ true → (x : ℕ) × (list_any (nat_eq x) xs ≡ true) × (p x ≡ true)
some_in p [] t = not_both t refl
some_in p (x ∷ xs) t = ⊎_elim
    (λ here. (x, or_left (nat_eq x x) (list_any (nat_eq x) xs) (itself x), here))
    (λ later. let r = some_in p xs later in (r.0, or_right (nat_eq r.0 x) (list_any (nat_eq r.0) xs) r.1, r.2))
    (or_cases (p x) (list_any p xs) t)

pub any_from : (p : ℕ → Bool) (xs : List ℕ) (a : ℕ) → list_any (nat_eq a) xs ≡ true → p a ≡ true → list_any p xs ≡ true
any_from p [] a is t = is
any_from p (x ∷ xs) a is t = ⊎_elim
    (λ here. or_left (p x) (list_any p xs) (subst (λ (y : ℕ). p y ≡ true) (eqb-true a x here) t))
    (λ later. or_right (p x) (list_any p xs) (any_from p xs a later t))
    (or_cases (nat_eq a x) (list_any (nat_eq a) xs) is)

pub all_from : (p : ℕ → Bool) (xs : List ℕ) → ((a : ℕ) → list_any (nat_eq a) xs ≡ true → p a ≡ true) → list_all p xs ≡ true
all_from p [] each = refl
all_from p (x ∷ xs) each =
    and_both (p x) (list_all p xs) (each x (or_left (nat_eq x x) (list_any (nat_eq x) xs) (itself x)))
    (all_from p xs (λ a is. each a (or_right (nat_eq a x) (list_any (nat_eq a) xs) is)))

pub each_of : (p : ℕ → Bool) (xs : List ℕ) (a : ℕ) → list_all p xs ≡ true → list_any (nat_eq a) xs ≡ true → p a ≡ true
each_of p [] a all is = not_both is refl
each_of p (x ∷ xs) a all is = ⊎_elim
    (λ here. subst (λ (y : ℕ). p y ≡ true) (sym (eqb-true a x here)) (and_left (p x) (list_all p xs) all))
    (λ later. each_of p xs a (and_right (p x) (list_all p xs) all) later)
    (or_cases (nat_eq a x) (list_any (nat_eq a) xs) is)

-- functions that agree at the numbers of a list
pub map_same : {B : Type 0} (f h : ℕ → B) (xs : List ℕ) → ((x : ℕ) → list_any (nat_eq x) xs ≡ true → f x ≡ h x) → map f xs ≡ map h xs
map_same f h [] each = refl
map_same f h (x ∷ xs) each =
    ap (λ y. y ∷ map f xs) (each x (or_left (nat_eq x x) (list_any (nat_eq x) xs) (itself x)))
    ∙ ap (λ ys. h x ∷ ys) (map_same f h xs (λ a is. each a (or_right (nat_eq a x) (list_any (nat_eq a) xs) is)))

pub flat_map_same : {B : Type 0} (f h : ℕ → List B) (xs : List ℕ) → ((x : ℕ) → list_any (nat_eq x) xs ≡ true → f x ≡ h x)
    → flat_map f xs ≡ flat_map h xs
flat_map_same f h [] each = refl
flat_map_same f h (x ∷ xs) each =
    ap (λ ys. ys ++ flat_map f xs) (each x (or_left (nat_eq x x) (list_any (nat_eq x) xs) (itself x)))
    ∙ ap (λ ys. h x ++ ys) (flat_map_same f h xs (λ a is. each a (or_right (nat_eq a x) (list_any (nat_eq a) xs) is)))

pub apart_from : (xs : List ℕ) (a : ℕ) → list_any (nat_eq a) xs ≡ false → AllByRecursion (λ (y : ℕ). nat_eq a y ≡ false) xs
apart_from [] a f = tt
apart_from (x ∷ xs) a f = (
  or_not_left (nat_eq a x) (list_any (nat_eq a) xs) f,
  apart_from xs a (or_not_right (nat_eq a x) (list_any (nat_eq a) xs) f),
)
