-- A loop over a list whose elements it changes, one after the other.
use Rattle.std.proofs.Common.{◌≡◌, ◌≢◌, ℕ, ◌+◌, ◌<◌, ◌≤◌, List, length, get_or, set, sym, subst, arith, length-set, get_or-set_other, get_or-set_same}
use mathlib.Core.Logic.{dite}
use native.Mathlib.Decide.{ℕ_discrete}

module _ {X : Type 0} (P : X → Type 0) (xs : List X) (i : ℕ) (y : X) where
  pub done_set : i < length xs → P y → ((j : ℕ) (d : X) → j < i → P (get_or xs j d)) → (j : ℕ) (d : X) → j < i + 1 → P (get_or (set xs i y) j d)
  done_set near is done j d h = dite (ℕ_discrete j i)
      (λ (e : j ≡ i). subst (λ (n : ℕ). P (get_or (set xs i y) n d)) (sym e) (subst P (sym (get_or-set_same xs i y d near)) is))
      (λ (n : j ≢ i). subst P (sym (get_or-set_other xs i j y d n)) (done j d (omega arith)))

  pub todo_set : ((j : ℕ) (d : X) → i ≤ j → j < length xs → P (get_or xs j d)) → (j : ℕ) (d : X) → i + 1 ≤ j → j < length (set xs i y) → P (get_or (set xs i y) j d)
  todo_set todo j d low high =
      let n : j ≢ i = omega arith in subst P (sym (get_or-set_other xs i j y d n)) (todo j d (omega arith) (omega (arith, length-set xs i y)))
