-- Insertion gives a strictly rising list of the same items, and there is only one.
use Rattle.std.specs.Prelude.{◌≡◌, ℕ, zero, suc, ◌<◌, ◌↔◌, ◌⊎◌, List, [], ◌∷◌, length, refl, Contains}
use Rattle.std.proofs.Common.{ap, sym, ◌∙◌, subst, arith, get_or, inl, inr}
use Rattle.std.specs.declared.cmp.Ordering.{Ordering}
use Rattle.std.specs.declared.cmp.Ordering.TheVariants.{Less, Equal, Greater}
use Rattle.std.specs.Ordering.{match_ordering, ordering_reverse}
use Rattle.std.specs.Cmp.{IsTotalOrder, tied_itself}
use Rattle.std.specs.List.{AllByRecursion}
use Rattle.std.specs.List.Sorted.{IsStrictlySortedBy}
use Rattle.abstract_syntax.specs.Rising.{insert_rising, rising}

-- ---- items of a list, by recursion

module _ {X : Type 0} where
  abbrev pub In : List X → X → Type 0
  In [] x = ⊥
  In (y ∷ ys) x = (y ≡ x) ⊎ In ys x

  in_at : (xs : List X) (x : X) (k : ℕ) → k < length xs → get_or xs k x ≡ x → In xs x
  in_at [] x k h e = absurd (omega arith)
  in_at (y ∷ ys) x zero h e = inl e
  in_at (y ∷ ys) x (suc k) h e = inr (in_at ys x k (omega arith) e)

  pub in_from_contains : (xs : List X) (x : X) → Contains xs x → In xs x
  in_from_contains xs x c = in_at xs x c.0 c.1 c.2

  pub contains_from_in : (xs : List X) (x : X) → In xs x → Contains xs x
  contains_from_in [] x i = absurd i
  contains_from_in (y ∷ ys) x (inl e) = (zero, omega arith, e)
  contains_from_in (y ∷ ys) x (inr i) = let c = contains_from_in ys x i in (suc c.0, omega (arith, c.1), c.2)

  pub all_at : (P : X → Type 0) (xs : List X) (x : X) → AllByRecursion P xs → In xs x → P x
  all_at P [] x a i = absurd i
  all_at P (y ∷ ys) x a (inl e) = subst P e a.0
  all_at P (y ∷ ys) x a (inr i) = all_at P ys x a.1 i

  pub all_from : (P : X → Type 0) (xs : List X) → ((x : X) → In xs x → P x) → AllByRecursion P xs
  all_from P [] f = tt
  all_from P (y ∷ ys) f = (f y (inl refl), all_from P ys (λ x i. f x (inr i)))

pub Less≢Equal : Less ≡ Equal → ⊥
Less≢Equal e = cc

pub Less≢Greater : Less ≡ Greater → ⊥
Less≢Greater e = cc

module _ {X : Type 0} {cmp : X → X → Ordering} (o : IsTotalOrder cmp) (same : (x y : X) → cmp x y ≡ Equal → x ≡ y) where
  above_at : (x y : X) (ys : List X) (z : X) → AllByRecursion (λ w. cmp y w ≡ Less) ys → cmp x y ≡ Less → In ys z → cmp x z ≡ Less
  above_at x y ys z a e i = o.trans x y z e (all_at _ ys z a i)

  turned : (x y : X) → cmp x y ≡ Greater → cmp y x ≡ Less
  turned x y e = o.antisymm y x ∙ ap ordering_reverse e

  -- ---- what insertion keeps

  has_by : (x y : X) (ys zs : List X) (z : X) → (In zs z → (x ≡ z) ⊎ In ys z) → (r : Ordering) → In (match_ordering r (x ∷ y ∷ ys) (y ∷ ys) (y ∷ zs)) z → (x ≡ z) ⊎ In (y ∷ ys) z
  has_by x y ys zs z f Less i = i
  has_by x y ys zs z f Equal i = inr i
  has_by x y ys zs z f Greater (inl e) = inr (inl e)
  has_by x y ys zs z f Greater (inr i) = elim (f i) [ inl e ↦ inl e | inr j ↦ inr (inr j) ]

  insert_has : (x : X) (ys : List X) (z : X) → In (insert_rising cmp x ys) z → (x ≡ z) ⊎ In ys z
  insert_has x [] z i = i
  insert_has x (y ∷ ys) z i = has_by x y ys (insert_rising cmp x ys) z (insert_has x ys z) (cmp x y) i

  gets_by : (x y : X) (ys zs : List X) (z : X) → ((x ≡ z) ⊎ In ys z → In zs z) → (r : Ordering) → cmp x y ≡ r → (x ≡ z) ⊎ In (y ∷ ys) z → In (match_ordering r (x ∷ y ∷ ys) (y ∷ ys) (y ∷ zs)) z
  gets_by x y ys zs z f Less e i = i
  gets_by x y ys zs z f Equal e (inl p) = inl (sym (same x y e) ∙ p)
  gets_by x y ys zs z f Equal e (inr j) = j
  gets_by x y ys zs z f Greater e (inl p) = inr (f (inl p))
  gets_by x y ys zs z f Greater e (inr (inl q)) = inl q
  gets_by x y ys zs z f Greater e (inr (inr j)) = inr (f (inr j))

  insert_gets : (x : X) (ys : List X) (z : X) → (x ≡ z) ⊎ In ys z → In (insert_rising cmp x ys) z
  insert_gets x [] z i = i
  insert_gets x (y ∷ ys) z i = gets_by x y ys (insert_rising cmp x ys) z (insert_gets x ys z) (cmp x y) refl i

  rises_by : (x y : X) (ys zs : List X) → IsStrictlySortedBy cmp (y ∷ ys) → IsStrictlySortedBy cmp zs → ((z : X) → In zs z → (x ≡ z) ⊎ In ys z) → (r : Ordering) → cmp x y ≡ r → IsStrictlySortedBy cmp (match_ordering r (x ∷ y ∷ ys) (y ∷ ys) (y ∷ zs))
  unfolding IsStrictlySortedBy
  rises_by x y ys zs s t f Less e = ((e, all_from _ ys (λ z i. above_at x y ys z s.0 e i)), s)
  rises_by x y ys zs s t f Equal e = s
  rises_by x y ys zs s t f Greater e =
      (all_from _ zs (λ z i. elim (f z i) [ inl p ↦ ap (cmp y) (sym p) ∙ turned x y e | inr j ↦ all_at _ ys z s.0 j ]), t)

  pub tail_rises : (x : X) (xs : List X) → IsStrictlySortedBy cmp (x ∷ xs) → IsStrictlySortedBy cmp xs
  unfolding IsStrictlySortedBy
  tail_rises x xs s = s.1

  pub head_below : (x : X) (xs : List X) (z : X) → IsStrictlySortedBy cmp (x ∷ xs) → In xs z → cmp x z ≡ Less
  unfolding IsStrictlySortedBy
  head_below x xs z s i = all_at _ xs z s.0 i

  none_rises : IsStrictlySortedBy cmp []
  unfolding IsStrictlySortedBy
  none_rises = tt

  one_rises : (x : X) → IsStrictlySortedBy cmp (x ∷ [])
  unfolding IsStrictlySortedBy
  one_rises x = (tt, tt)

  insert_rises : (x : X) (ys : List X) → IsStrictlySortedBy cmp ys → IsStrictlySortedBy cmp (insert_rising cmp x ys)
  insert_rises x [] s = one_rises x
  insert_rises x (y ∷ ys) s =
      rises_by x y ys (insert_rising cmp x ys) s (insert_rises x ys (tail_rises y ys s)) (insert_has x ys) (cmp x y) refl

  rising_in : (xs : List X) (z : X) → In (rising cmp xs) z → In xs z
  rising_in [] z i = i
  rising_in (x ∷ xs) z i = elim (insert_has x (rising cmp xs) z i) [ inl e ↦ inl e | inr j ↦ inr (rising_in xs z j) ]

  in_rising : (xs : List X) (z : X) → In xs z → In (rising cmp xs) z
  in_rising [] z i = i
  in_rising (x ∷ xs) z (inl e) = insert_gets x (rising cmp xs) z (inl e)
  in_rising (x ∷ xs) z (inr i) = insert_gets x (rising cmp xs) z (inr (in_rising xs z i))

  -- ---- one list

  not_both_below : (x y : X) → cmp x y ≡ Less → cmp y x ≡ Less → ⊥
  not_both_below x y p q = Less≢Greater (sym p ∙ o.antisymm x y ∙ ap ordering_reverse q)

  pub not_below_itself : (x y : X) → x ≡ y → cmp x y ≡ Less → ⊥
  not_below_itself x y e p = Less≢Equal (sym p ∙ ap (cmp x) (sym e) ∙ tied_itself o x)

  heads_same : (x y : X) (xs ys : List X) → IsStrictlySortedBy cmp (x ∷ xs) → IsStrictlySortedBy cmp (y ∷ ys) → In (y ∷ ys) x → In (x ∷ xs) y → x ≡ y
  heads_same x y xs ys s t (inl e) j = sym e
  heads_same x y xs ys s t (inr i) (inl e) = e
  heads_same x y xs ys s t (inr i) (inr j) = absurd (not_both_below x y (head_below x xs y s j) (head_below y ys x t i))

  not_the_head : (x y z : X) (xs ys : List X) → IsStrictlySortedBy cmp (x ∷ xs) → x ≡ y → In xs z → In (y ∷ ys) z → In ys z
  not_the_head x y z xs ys s e i (inl p) = absurd (not_below_itself x z (e ∙ p) (head_below x xs z s i))
  not_the_head x y z xs ys s e i (inr j) = j

  in_same : (xs ys : List X) → IsStrictlySortedBy cmp xs → IsStrictlySortedBy cmp ys → ((z : X) → In xs z → In ys z) → ((z : X) → In ys z → In xs z) → xs ≡ ys
  in_same [] [] s t f g = refl
  in_same [] (y ∷ ys) s t f g = absurd (g y (inl refl))
  in_same (x ∷ xs) [] s t f g = absurd (f x (inl refl))
  in_same (x ∷ xs) (y ∷ ys) s t f g =
      let e : x ≡ y = heads_same x y xs ys s t (f x (inl refl)) (g y (inl refl)) in
      let rest : xs ≡ ys = in_same xs ys (tail_rises x xs s) (tail_rises y ys t)
      (λ z i. not_the_head x y z xs ys s e i (f z (inr i)))
      (λ z i. not_the_head y x z ys xs t (sym e) i (g z (inr i))) in
      λ i. e i ∷ rest i

  -- ---- the laws

  pub rising_rises : (xs : List X) → IsStrictlySortedBy cmp (rising cmp xs)
  rising_rises [] = none_rises
  rising_rises (x ∷ xs) = insert_rises x (rising cmp xs) (rising_rises xs)

  pub rising_keeps : (xs : List X) (x : X) → Contains (rising cmp xs) x ↔ Contains xs x
  rising_keeps xs x = (
    λ c. contains_from_in xs x (rising_in xs x (in_from_contains (rising cmp xs) x c)),
    λ c. contains_from_in (rising cmp xs) x (in_rising xs x (in_from_contains xs x c)),
  )

  pub rising_once : (xs ys : List X) → IsStrictlySortedBy cmp xs → IsStrictlySortedBy cmp ys → ((x : X) → Contains xs x ↔ Contains ys x) → xs ≡ ys
  rising_once xs ys s t f =
      in_same xs ys s t
      (λ z i. in_from_contains ys z ((f z).0 (contains_from_in xs z i)))
      (λ z i. in_from_contains xs z ((f z).1 (contains_from_in ys z i)))

  -- a strictly rising list of the items of xs is the one that insertion gives
  pub rising_is : (xs ys : List X) → IsStrictlySortedBy cmp ys → ((x : X) → Contains ys x → Contains xs x) → ((x : X) → Contains xs x → Contains ys x) → ys ≡ rising cmp xs
  rising_is xs ys s f g =
      rising_once ys (rising cmp xs) s (rising_rises xs) (λ x. (λ c. (rising_keeps xs x).1 (f x c), λ c. g x ((rising_keeps xs x).0 c)))
