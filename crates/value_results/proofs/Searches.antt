-- What a search by halving finds in a list that rises.
use Rattle.std.proofs.Common.{◌≡◌, ℕ, zero, suc, ◌+◌, ◌<◌, ◌≤◌, Bool, true, false, List, [], ◌∷◌, length, get_or, refl, ap, sym, ◌∙◌, arith, Ok, Err, Result, Some, None, ◌⊎◌, inl, inr}
use Rattle.std.specs.Prelude.{if◌then◌else◌, is_ok}
use Rattle.std.specs.declared.cmp.Ordering.{Ordering}
use Rattle.std.specs.declared.cmp.Ordering.TheVariants.{Less, Equal, Greater}
use Rattle.std.specs.Ordering.{ordering_reverse, ordering_index, is_lt}
use Rattle.std.specs.Cmp.{IsTotalOrder}
use Rattle.std.specs.List.{AllByRecursion}
use Rattle.std.specs.List.Sorted.{IsStrictlySortedBy, IsBinarySearchResult, IsSearchInRange, IsPartitionPoint, IsNonDecreasingBy, IsSortedBy}
use Rattle.std.proofs.lemmas.List.Sorted.{searchable_from_sorted}
use Rattle.abstract_syntax.specs.Values.{ValueTree}
use Rattle.abstract_syntax.specs.ValueOrder.{value_order}
use Rattle.abstract_syntax.specs.ValueOrderTotal.{value_order_total, same_from_order, order_of_itself}
use Rattle.abstract_syntax.specs.ValueCode.{value_code}
use Rattle.abstract_syntax.specs.SameBy.{same_by-decides}
use Rattle.abstract_syntax.specs.ValueSets.{Entry, key_order}
use Rattle.abstract_syntax.proofs.RisingLaws.{in_from_contains, contains_from_in, Less≢Equal}
use Rattle.value_operators.specs.Numbers.{is_same}
use Rattle.value_operators.specs.Members.{has, found}
use Rattle.value_operators.proofs.Lists.{in_from_has, has_from_in}

lt_or : (k i : ℕ) → (k < i) ⊎ (i ≤ k)
lt_or k zero = inr (omega arith)
lt_or zero (suc i) = inl (omega arith)
lt_or (suc k) (suc i) = elim (lt_or k i) [ inl l ↦ inl (omega (arith, l)) | inr g ↦ inr (omega (arith, g)) ]

Greater≢Equal : Greater ≡ Equal → ⊥
Greater≢Equal e = cc

-- ---- an item is below those behind it

module _ {X : Type 0} (cmp : X → X → Ordering) where
  pub below_at : (x : X) (xs : List X) (k : ℕ) (d : X) → AllByRecursion (λ y. cmp x y ≡ Less) xs → k < length xs → cmp x (get_or xs k d) ≡ Less
  below_at x [] k d a h = absurd (omega arith)
  below_at x (y ∷ ys) zero d a h = a.0
  below_at x (y ∷ ys) (suc k) d a h = below_at x ys k d a.1 (omega arith)

  next_below : (xs : List X) (k : ℕ) (d : X) → IsStrictlySortedBy cmp xs → suc k < length xs → cmp (get_or xs k d) (get_or xs (suc k) d) ≡ Less
  unfolding IsStrictlySortedBy
  next_below [] k d s h = absurd (omega arith)
  next_below (x ∷ xs) zero d s h = below_at x xs zero d s.0 (omega arith)
  next_below (x ∷ xs) (suc k) d s h = next_below xs k d s.1 (omega arith)

module _ {X K : Type 0} {cmp : K → K → Ordering} (o : IsTotalOrder cmp) (key : X → K) where
  sorted_by_key : (xs : List X) → IsStrictlySortedBy (λ x y. cmp (key x) (key y)) xs → IsSortedBy (λ x y. is_lt (cmp (key x) (key y))) xs
  sorted_by_key xs s = λ k d l h.
      let less : cmp (key (get_or xs k d)) (key (get_or xs (suc k) d)) ≡ Less = next_below (λ x y. cmp (key x) (key y)) xs k d s (omega arith) in
      let next : suc k ≡ k + 1 = omega arith in
      ap is_lt (o.antisymm (key (get_or xs (k + 1) d)) (key (get_or xs k d)) ∙ ap ordering_reverse (ap (λ j. cmp (key (get_or xs k d)) (key (get_or xs j d))) (sym next) ∙ less))

  -- what the search says where it finds nothing
  pub not_there : (xs : List X) (x : K) (i : ℕ) → IsStrictlySortedBy (λ a b. cmp (key a) (key b)) xs
      → (IsNonDecreasingBy (λ y. ordering_index (cmp (key y) x)) xs → IsPartitionPoint (λ y. cmp (key y) x ≡ Less) (λ y. cmp (key y) x ≡ Greater) xs i)
      → (k : ℕ) (d : X) → k < length xs → cmp (key (get_or xs k d)) x ≡ Equal → ⊥
  not_there xs x i s f k d h e = by (f (searchable_from_sorted o key xs x (sorted_by_key xs s)))
    where
      by : IsPartitionPoint (λ y. cmp (key y) x ≡ Less) (λ y. cmp (key y) x ≡ Greater) xs i → ⊥
      by p = elim (lt_or k i) [ inl l ↦ Less≢Equal (sym (p.0 k d (omega arith) l) ∙ e) | inr g ↦ Greater≢Equal (sym (p.1 k d g h) ∙ e) ]

-- ---- members

pub has_searched : (vs : List ValueTree) (v : ValueTree) (r : Result ℕ ℕ) → IsStrictlySortedBy value_order vs → IsSearchInRange r (length vs) → IsBinarySearchResult (λ y. value_order y v) vs r → is_ok r ≡ has vs v
has_searched vs v (Ok i) s b p =
    sym (has_from_in vs v (in_from_contains vs v (i, b, same_from_order (get_or vs i v) v (p v))))
has_searched vs v (Err i) s b p = by (has vs v) refl
  where
    by : (t : Bool) → has vs v ≡ t → false ≡ t
    by false e = refl
    by true e =
        let c = contains_from_in vs v (in_from_has vs v e) in
        absurd (not_there value_order_total (λ x. x) vs v i s p c.0 v c.1 (ap (λ w. value_order w v) c.2 ∙ order_of_itself v))

-- ---- keys

other_key : (v w : ValueTree) → (v ≡ w → ⊥) → is_same v w ≡ false
other_key v w f = by (is_same v w) refl
  where
    by : (r : Bool) → is_same v w ≡ r → r ≡ false
    by false e = refl
    by true e = absurd (f ((same_by-decides value_code v w).0 e))

pub found_at : (ps : List Entry) (key : ValueTree) (i : ℕ) (d : Entry) → IsStrictlySortedBy key_order ps → i < length ps → value_order (get_or ps i d).0 key ≡ Equal → found ps key ≡ Some (get_or ps i d).1
unfolding IsStrictlySortedBy
found_at [] key i d s h e = absurd (omega arith)
found_at (p ∷ ps) key zero d s h e = ap (λ r. if r then Some p.1 else found ps key) ((same_by-decides value_code p.0 key).1 (same_from_order p.0 key e))
found_at (p ∷ ps) key (suc i) d s h e =
    let less : value_order p.0 (get_or ps i d).0 ≡ Less = below_at key_order p ps i d s.0 (omega arith) in
    let later : (get_or ps i d).0 ≡ key = same_from_order _ _ e in
    ap (λ r. if r then Some p.1 else found ps key) (other_key p.0 key (λ same. Less≢Equal (sym less ∙ ap (value_order p.0) later ∙ ap (λ w. value_order w key) same ∙ order_of_itself key)))
    ∙ found_at ps key i d s.1 (omega arith) e

pub found_none : (ps : List Entry) (key : ValueTree) → ((k : ℕ) (d : Entry) → k < length ps → value_order (get_or ps k d).0 key ≡ Equal → ⊥) → found ps key ≡ None
found_none [] key f = refl
found_none (p ∷ ps) key f =
    ap (λ r. if r then Some p.1 else found ps key) (other_key p.0 key (λ same. f zero p (omega arith) (ap (λ w. value_order w key) same ∙ order_of_itself key)))
    ∙ found_none ps key (λ k d h e. f (suc k) d (omega arith) e)

pub pair_not_there : (ps : List Entry) (key : ValueTree) (i : ℕ) → IsStrictlySortedBy key_order ps
    → (IsNonDecreasingBy (λ (p : Entry). ordering_index (value_order p.0 key)) ps → IsPartitionPoint (λ (p : Entry). value_order p.0 key ≡ Less) (λ (p : Entry). value_order p.0 key ≡ Greater) ps i)
    → (k : ℕ) (d : Entry) → k < length ps → value_order (get_or ps k d).0 key ≡ Equal → ⊥
pair_not_there ps key i s f = not_there value_order_total (λ (p : Entry). p.0) ps key i s f
