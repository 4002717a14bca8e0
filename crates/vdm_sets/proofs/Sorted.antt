-- A sort and then `dedup` give the strictly rising list of the same items.
use Rattle.std.proofs.Common.{◌≡◌, ℕ, zero, suc, Bool, true, List, [], ◌∷◌, ◌++◌, length, take, refl, ap, arith, sym, ◌∙◌, subst, IsPermutation, IsSorted}
use Rattle.std.specs.declared.cmp.Ordering.{Ordering}
use Rattle.std.specs.declared.cmp.Ordering.TheVariants.{Equal}
use Rattle.std.specs.Ordering.{eq_by_cmp}
use Rattle.std.specs.Cmp.{IsTotalOrder, IsEquivalence, Equal-is, eq_by_cmp_equiv}
use Rattle.std.specs.List.{dedup}
use Rattle.std.specs.List.Retain.{IsFiltered, DiffersFromLast}
use Rattle.std.proofs.lemmas.List.Filters.{dedup_is}
use Rattle.std.proofs.lemmas.List.Kept.{IsStrictlySortedBy-dedup, Contains-dedup, Contains-from_dedup}
use Rattle.std.proofs.lemmas.List.Sorted.{Contains-permutation, IsPermutation-sym}
use Rattle.abstract_syntax.specs.Rising.{rising}
use Rattle.abstract_syntax.proofs.RisingLaws.{rising_is}

module _ {X : Type 0} {cmp : X → X → Ordering} (o : IsTotalOrder cmp) (same : (x y : X) → cmp x y ≡ Equal → x ≡ y) {E : X → X → Bool} (ties : (x y : X) → E x y ≡ eq_by_cmp cmp x y) where
  equal_items : (x y : X) → E x y ≡ true → x ≡ y
  equal_items x y h = same x y ((Equal-is (cmp x y)).0 (sym (ties x y) ∙ h))

  equality : IsEquivalence E
  equality = subst IsEquivalence (λ i x y. sym (ties x y) i) (eq_by_cmp_equiv o)

  pub rising_from_sort : (xs ys zs : List X) → IsPermutation xs ys → IsSorted cmp ys → IsFiltered (DiffersFromLast E) [] ys zs → zs ≡ rising cmp xs
  rising_from_sort xs ys zs p s f =
      dedup_is E ys zs f ∙ rising_is o same xs (dedup E ys) (IsStrictlySortedBy-dedup o ties ys s)
      (λ x c. Contains-permutation ys xs x (IsPermutation-sym xs ys p) (Contains-from_dedup E ys x c))
      (λ x c. Contains-dedup equality equal_items ys x (Contains-permutation xs ys x p c))

-- what a vector holds after all its items were written through a slice
pub refilled : {X : Type 0} (n : ℕ) (ws us : List X) → length ws ≡ n → take n (ws ++ us) ≡ ws
refilled zero [] us e = refl
refilled (suc n) [] us e = absurd (omega arith)
refilled zero (w ∷ ws) us e = absurd (omega arith)
refilled (suc n) (w ∷ ws) us e = ap (λ rest. w ∷ rest) (refilled n ws us (omega arith))
