-- Each number once, where it stands first.
use Rattle.std.proofs.Common.{◌≡◌, ℕ, Bool, true, false, not, ◌||◌, ◌&&◌, ◌⊎◌, inl, inr, List, [], ◌∷◌, ◌++◌, nat_eq, eqb-true, refl, ap, sym, subst, ◌∙◌, cond}
use Rattle.std.specs.List.{list_any, filter, flat_map, IsDistinct, AllByRecursion}
use Rattle.std.proofs.lemmas.Bool.{cases_Bool}
use Rattle.std.proofs.lemmas.List.Elements.{filter-append, filter_agree}
use Rattle.std.proofs.lemmas.Map.Keys.{IsDistinct-cons, IsDistinct-head, IsDistinct-tail}
use Rattle.class_meaning.specs.Ancestors.{firsts}
use Rattle.class_meaning.proofs.Numbers.{flipped}

module _ {A : Type 0} where
  keep_step : (b : Bool) (x : A) (xs ys : List A) → xs ≡ ys → cond b (x ∷ xs) xs ≡ cond b (x ∷ ys) ys
  keep_step true x xs ys e = ap (λ zs. x ∷ zs) e
  keep_step false x xs ys e = e

  -- a filter keeps all where all pass, and two filters are one
  pub filter_every : (p : A → Bool) (xs : List A) → ((x : A) → p x ≡ true) → filter p xs ≡ xs
  filter_every p [] each = refl
  filter_every p (x ∷ xs) each = ap (λ (b : Bool). cond b (x ∷ filter p xs) (filter p xs)) (each x) ∙ ap (λ zs. x ∷ zs) (filter_every p xs each)

  pub filter_both : (p q : A → Bool) (xs : List A) → filter p (filter q xs) ≡ filter (λ (x : A). q x && p x) xs
  filter_both p q [] = refl
  filter_both p q (x ∷ xs) = by (q x) (p x) refl (filter_both p q xs)
    where
      by : (s t : Bool) → p x ≡ t → filter p (filter q xs) ≡ filter (λ (x : A). q x && p x) xs
          → filter p (cond s (x ∷ filter q xs) (filter q xs))
          ≡ cond (s && t) (x ∷ filter (λ (x : A). q x && p x) xs) (filter (λ (x : A). q x && p x) xs)
      by true true e rest = ap (λ (b : Bool). cond b (x ∷ filter p (filter q xs)) (filter p (filter q xs))) e ∙ ap (λ zs. x ∷ zs) rest
      by true false e rest = ap (λ (b : Bool). cond b (x ∷ filter p (filter q xs)) (filter p (filter q xs))) e ∙ rest
      by false t e rest = rest

and_flipped : (a b : Bool) → (a && b) ≡ (b && a)
and_flipped true true = refl
and_flipped true false = refl
and_flipped false true = refl
and_flipped false false = refl

and_again : (a : Bool) → (a && a) ≡ a
and_again true = refl
and_again false = refl

not_or : (a b : Bool) → (not b && not a) ≡ not (a || b)
not_or true true = refl
not_or true false = refl
not_or false true = refl
not_or false false = refl

pub filter_flipped : (p q : ℕ → Bool) (xs : List ℕ) → filter p (filter q xs) ≡ filter q (filter p xs)
filter_flipped p q xs = filter_both p q xs ∙ filter_agree (λ (x : ℕ). q x && p x) (λ (x : ℕ). p x && q x) (λ x. and_flipped (q x) (p x)) xs
    ∙ sym (filter_both q p xs)

pub filter_again : (p : ℕ → Bool) (xs : List ℕ) → filter p (filter p xs) ≡ filter p xs
filter_again p xs = filter_both p p xs ∙ filter_agree (λ (x : ℕ). p x && p x) p (λ x. and_again (p x)) xs

abbrev pub other_than : ℕ → ℕ → Bool
other_than k other = not (nat_eq k other)

-- taking out a number that doesn't pass changes nothing for a filter
filter_without : (p : ℕ → Bool) (k : ℕ) (xs : List ℕ) → p k ≡ false → filter p (filter (other_than k) xs) ≡ filter p xs
filter_without p k xs f = filter_both p (other_than k) xs ∙ filter_agree (λ (x : ℕ). other_than k x && p x) p (λ x. by x (cases_Bool (nat_eq k x))) xs
  where
    by : (x : ℕ) → (nat_eq k x ≡ true) ⊎ (nat_eq k x ≡ false) → (other_than k x && p x) ≡ p x
    by x (inl t) = ap (λ (b : Bool). not b && p x) t ∙ sym (subst (λ (y : ℕ). p y ≡ false) (eqb-true k x t) f)
    by x (inr g) = ap (λ (b : Bool). not b && p x) g

pub firsts_filter : (p : ℕ → Bool) (xs : List ℕ) → firsts (filter p xs) ≡ filter p (firsts xs)
firsts_filter p [] = refl
firsts_filter p (x ∷ xs) = by (p x) refl (firsts_filter p xs)
  where
    by : (b : Bool) → p x ≡ b → firsts (filter p xs) ≡ filter p (firsts xs)
        → firsts (cond b (x ∷ filter p xs) (filter p xs))
        ≡ cond b (x ∷ filter p (filter (other_than x) (firsts xs))) (filter p (filter (other_than x) (firsts xs)))
    by true e rest = ap (λ zs. x ∷ filter (other_than x) zs) rest ∙ ap (λ zs. x ∷ zs) (filter_flipped (other_than x) p (firsts xs))
    by false e rest = rest ∙ sym (filter_without p x (firsts xs) e)

-- what is there once stays
pub firsts_again : (xs : List ℕ) → firsts (firsts xs) ≡ firsts xs
firsts_again [] = refl
firsts_again (x ∷ xs) =
    ap (λ zs. x ∷ zs)
    (ap (filter (other_than x)) (firsts_filter (other_than x) (firsts xs))
    ∙ filter_again (other_than x) (firsts (firsts xs))
    ∙ ap (filter (other_than x)) (firsts_again xs))

-- the same numbers stand there
filter_in : (k : ℕ) (b : ℕ) (xs : List ℕ) → nat_eq b k ≡ false → list_any (nat_eq b) (filter (other_than k) xs) ≡ list_any (nat_eq b) xs
filter_in k b [] f = refl
filter_in k b (x ∷ xs) f = by (nat_eq k x) refl (filter_in k b xs f)
  where
    by : (s : Bool) → nat_eq k x ≡ s → list_any (nat_eq b) (filter (other_than k) xs) ≡ list_any (nat_eq b) xs →
        list_any (nat_eq b) (cond (not s) (x ∷ filter (other_than k) xs) (filter (other_than k) xs)) ≡ (nat_eq b x || list_any (nat_eq b) xs)
    by true e rest =
        rest ∙ ap (λ (t : Bool). t || list_any (nat_eq b) xs) (sym (subst (λ (y : ℕ). nat_eq b y ≡ false) (eqb-true k x e) f))
    by false e rest = ap (λ (t : Bool). nat_eq b x || t) rest

pub firsts_in : (xs : List ℕ) (b : ℕ) → list_any (nat_eq b) (firsts xs) ≡ list_any (nat_eq b) xs
firsts_in [] b = refl
firsts_in (x ∷ xs) b = by (nat_eq b x) refl (firsts_in xs b)
  where
    by : (s : Bool) → nat_eq b x ≡ s → list_any (nat_eq b) (firsts xs) ≡ list_any (nat_eq b) xs
        → (s || list_any (nat_eq b) (filter (other_than x) (firsts xs))) ≡ (s || list_any (nat_eq b) xs)
    by true e rest = refl
    by false e rest = filter_in x b (firsts xs) e ∙ rest

-- of two lists one after the other
pub firsts_append : (xs ys : List ℕ) → firsts (xs ++ ys) ≡ firsts xs ++ filter (λ (y : ℕ). not (list_any (nat_eq y) xs)) (firsts ys)
firsts_append [] ys = sym (filter_every (λ (y : ℕ). not false) (firsts ys) (λ y. refl))
firsts_append (x ∷ xs) ys =
    ap (λ zs. x ∷ zs)
    (ap (filter (other_than x)) (firsts_append xs ys)
    ∙ filter-append (other_than x) (firsts xs) (filter (λ (y : ℕ). not (list_any (nat_eq y) xs)) (firsts ys))
    ∙ ap (λ zs. filter (other_than x) (firsts xs) ++ zs)
    (filter_both (other_than x) (λ (y : ℕ). not (list_any (nat_eq y) xs)) (firsts ys)
    ∙ filter_agree (λ (y : ℕ). not (list_any (nat_eq y) xs) && other_than x y) (λ (y : ℕ). not (nat_eq y x || list_any (nat_eq y) xs))
    (λ y. ap (λ (b : Bool). not (list_any (nat_eq y) xs) && not b) (flipped x y) ∙ not_or (nat_eq y x) (list_any (nat_eq y) xs)) (firsts ys)))

pub firsts_behind : (xs ys : List ℕ) → firsts (xs ++ firsts ys) ≡ firsts (xs ++ ys)
firsts_behind xs ys =
    firsts_append xs (firsts ys)
    ∙ ap (λ zs. firsts xs ++ filter (λ (y : ℕ). not (list_any (nat_eq y) xs)) zs) (firsts_again ys)
    ∙ sym (firsts_append xs ys)

pub firsts_before : (xs ys : List ℕ) → firsts (firsts xs ++ ys) ≡ firsts (xs ++ ys)
firsts_before xs ys =
    firsts_append (firsts xs) ys
    ∙ ap (λ zs. zs ++ filter (λ (y : ℕ). not (list_any (nat_eq y) (firsts xs))) (firsts ys)) (firsts_again xs)
    ∙ ap (λ zs. firsts xs ++ zs) (filter_agree (λ (y : ℕ). not (list_any (nat_eq y) (firsts xs))) (λ (y : ℕ). not (list_any (nat_eq y) xs))
    (λ y. ap not (firsts_in xs y)) (firsts ys))
    ∙ sym (firsts_append xs ys)

pub firsts_flat_map : (f : ℕ → List ℕ) (xs : List ℕ) → firsts (flat_map (λ (x : ℕ). firsts (f x)) xs) ≡ firsts (flat_map f xs)
firsts_flat_map f [] = refl
firsts_flat_map f (x ∷ xs) =
    firsts_before (f x) (flat_map (λ (x : ℕ). firsts (f x)) xs)
    ∙ sym (firsts_behind (f x) (flat_map (λ (x : ℕ). firsts (f x)) xs))
    ∙ ap (λ zs. firsts (f x ++ zs)) (firsts_flat_map f xs)
    ∙ firsts_behind (f x) (flat_map f xs)

-- ---- none stands there twice

filter_keeps : (P : ℕ → Type 0) (p : ℕ → Bool) (xs : List ℕ) → AllByRecursion P xs → AllByRecursion P (filter p xs)
filter_keeps P p [] all = tt
filter_keeps P p (x ∷ xs) all = by (p x) (filter_keeps P p xs all.1)
  where
    by : (b : Bool) → AllByRecursion P (filter p xs) → AllByRecursion P (cond b (x ∷ filter p xs) (filter p xs))
    by true rest = (all.0, rest)
    by false rest = rest

pub filter_apart : (p : ℕ → Bool) (xs : List ℕ) → IsDistinct nat_eq xs → IsDistinct nat_eq (filter p xs)
filter_apart p [] apart = apart
filter_apart p (x ∷ xs) apart = by (p x) (filter_apart p xs (IsDistinct-tail nat_eq x xs apart))
  where
    by : (b : Bool) → IsDistinct nat_eq (filter p xs) → IsDistinct nat_eq (cond b (x ∷ filter p xs) (filter p xs))
    by true rest = IsDistinct-cons nat_eq x (filter p xs) (filter_keeps (λ (y : ℕ). nat_eq x y ≡ false) p xs (IsDistinct-head nat_eq x xs apart)) rest
    by false rest = rest

without : (x : ℕ) (xs : List ℕ) → AllByRecursion (λ (y : ℕ). nat_eq x y ≡ false) (filter (other_than x) xs)
without x [] = tt
without x (y ∷ xs) = by (nat_eq x y) refl (without x xs)
  where
    by : (b : Bool) → nat_eq x y ≡ b → AllByRecursion (λ (y : ℕ). nat_eq x y ≡ false) (filter (other_than x) xs)
        → AllByRecursion (λ (y : ℕ). nat_eq x y ≡ false) (cond (not b) (y ∷ filter (other_than x) xs) (filter (other_than x) xs))
    by true e rest = rest
    by false e rest = (e, rest)

pub nothing_apart : IsDistinct nat_eq []
unfolding IsDistinct
nothing_apart = tt

pub firsts_apart : (xs : List ℕ) → IsDistinct nat_eq (firsts xs)
firsts_apart [] = nothing_apart
firsts_apart (x ∷ xs) = IsDistinct-cons nat_eq x (filter (other_than x) (firsts xs)) (without x (firsts xs))
    (filter_apart (other_than x) (firsts xs) (firsts_apart xs))
