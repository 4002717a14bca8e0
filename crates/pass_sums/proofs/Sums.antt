-- Sums over the views of all passes, after a change of one of them.
use Rattle.std.proofs.Common.{◌≡◌, ◌≢◌, ℕ, zero, suc, ◌+◌, ◌*◌, ◌<◌, ◌≤◌, List, [], ◌∷◌, ◌++◌, set, sym, refl, ap, arith}
use Rattle.std.proofs.lemmas.Bool.Decides.{nat_tests}
use mathlib.Core.Logic.{dite}
use native.Mathlib.Decide.{ℕ_discrete}
use mathlib.Core.Option.{some, some-injective, some-ne-none}
use lib.ListN.{get_elem?}
use Rattle.pass_sums.specs.Counting.{total, same, below}

pub same_here : (x : ℕ) → same x x ≡ 1
same_here x = grind (arith, nat_tests)

pub below_next : (n x : ℕ) → below (n + 1) x ≡ below n x + same x n
below_next n x = grind (arith, nat_tests)

pub below_zero : (x : ℕ) → below 0 x ≡ 0
below_zero x = grind (arith, nat_tests)

pub below_none : (n : ℕ) → below n n ≡ 0
below_none n = grind (arith, nat_tests)

pub below_most : (n x : ℕ) → below n x ≤ 1
below_most n x = grind (arith, nat_tests)

pub below_some : (n x : ℕ) → 0 < below n x → x < n
below_some n x h = grind (arith, nat_tests)

module _ {A : Type 0} (f : A → ℕ) where
  pub total_append : (xs ys : List A) → total f (xs ++ ys) ≡ total f xs + total f ys
  total_append [] ys = omega arith
  total_append (x ∷ xs) ys = omega (arith, total_append xs ys)

  pub total_set : (xs : List A) (i : ℕ) (v w : A) → get_elem? xs i ≡ some v → total f (set xs i w) + f v ≡ total f xs + f w
  total_set [] i v w at = absurd (some-ne-none v (sym at))
  total_set (x ∷ xs) zero v w at = omega (arith, ap f (some-injective x v at))
  total_set (x ∷ xs) (suc i) v w at = omega (arith, total_set xs i v w at)

  pub total_same : (xs : List A) (i : ℕ) (v w : A) → get_elem? xs i ≡ some v → f w ≡ f v → total f (set xs i w) ≡ total f xs
  total_same xs i v w at e = omega (arith, total_set xs i v w at)

  pub total_one : (xs : List A) (i : ℕ) (v : A) → get_elem? xs i ≡ some v → f v ≤ total f xs
  total_one [] i v at = absurd (some-ne-none v (sym at))
  total_one (x ∷ xs) zero v at = omega (arith, ap f (some-injective x v at))
  total_one (x ∷ xs) (suc i) v at = omega (arith, total_one xs i v at)

  pub total_two : (xs : List A) (i j : ℕ) (v w : A) → j ≢ i → get_elem? xs i ≡ some v → get_elem? xs j ≡ some w → f v + f w ≤ total f xs
  total_two [] i j v w other at to = absurd (some-ne-none v (sym at))
  total_two (x ∷ xs) zero zero v w other at to = absurd (other refl)
  total_two (x ∷ xs) zero (suc j) v w other at to = omega (arith, ap f (some-injective x v at), total_one xs j w to)
  total_two (x ∷ xs) (suc i) zero v w other at to = omega (arith, ap f (some-injective x w to), total_one xs i v at)
  total_two (x ∷ xs) (suc i) (suc j) v w other at to = omega (arith, total_two xs i j v w (λ e. other (ap suc e)) at to)

  pub total_none : (xs : List A) → ((j : ℕ) (u : A) → get_elem? xs j ≡ some u → f u ≡ 0) → total f xs ≡ 0
  total_none [] none = refl
  total_none (x ∷ xs) none = omega (arith, none 0 x refl, total_none xs (λ j u at. none (suc j) u at))

  -- where the sum is not 0, some element has a part of it
  pub total_some : (xs : List A) → 0 < total f xs → (j : ℕ) × (u : A) × (get_elem? xs j ≡ some u) × (0 < f u)
  total_some [] h = absurd (omega arith)
  total_some (x ∷ xs) h = dite (ℕ_discrete (f x) 0) (λ z. let r = total_some xs (omega arith) in (suc r.0, r.1, r.2, r.3)) (λ n. (0, x, refl, omega arith))

module _ {A : Type 0} (f g : A → ℕ) where
  -- where one element has the whole sum of g, and f is 0 where g is, it has the whole sum of f
  pub total_only : (xs : List A) (i : ℕ) (v : A) → get_elem? xs i ≡ some v → total g xs ≡ g v
      → ((j : ℕ) (u : A) → get_elem? xs j ≡ some u → g u ≡ 0 → f u ≡ 0) → total f xs ≡ f v
  total_only [] i v at all none = absurd (some-ne-none v (sym at))
  total_only (x ∷ xs) zero v at all none =
      let e = some-injective x v at in let rest : total g xs ≡ 0 = omega (arith, ap g e) in
      omega (arith, ap f e, total_none f xs (λ j u to. none (suc j) u to (omega (arith, total_one g xs j u to))))
  total_only (x ∷ xs) (suc i) v at all none =
      let o = total_one g xs i v at in let z : f x ≡ 0 = none 0 x refl (omega arith) in
      omega (arith, total_only xs i v at (omega arith) (λ j u to. none (suc j) u to))

  pub total_most : (c : ℕ) (xs : List A) → ((j : ℕ) (u : A) → get_elem? xs j ≡ some u → f u ≤ c * g u) → total f xs ≤ c * total g xs
  total_most c [] most = omega arith
  total_most c (x ∷ xs) most = omega (arith, most 0 x refl, total_most c xs (λ j u at. most (suc j) u at))
