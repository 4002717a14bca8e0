-- In a list of pairs in order, a conflict stands between neighbours.
use Rattle.std.proofs.Common.{◌≡◌, ℕ, zero, suc, ◌+◌, ◌-◌, ◌<◌, List, [], ◌∷◌, length, get_or, refl, ap, sym, ◌∙◌, subst, add-one, arith, below_more, Contains}
use Rattle.std.proofs.lemmas.List.Elements.{Contains-get_or}
use Rattle.std.specs.declared.cmp.Ordering.TheVariants.{Less}
use Rattle.std.specs.List.Sorted.{IsStrictlySortedBy}
use Rattle.abstract_syntax.proofs.RisingLaws.{all_at, all_from, not_below_itself}
use Rattle.abstract_syntax.specs.ValueSets.{Entry, pair_order, key_order, HasConflict}
use Rattle.abstract_syntax.proofs.MapLaws.{pair_order_total, key_order_total, pair_same, less_by_key, no_conflict_by_key}

rises_by_key : (ps : List Entry) → IsStrictlySortedBy pair_order ps → ((k : ℕ) (d : Entry) → suc k < length ps → (get_or ps k d).0 ≡ (get_or ps (suc k) d).0 → ⊥) → IsStrictlySortedBy key_order ps
unfolding IsStrictlySortedBy
rises_by_key [] s f = tt
rises_by_key (p ∷ []) s f = (tt, tt)
rises_by_key (p ∷ (q ∷ qs)) s f =
    let rest : IsStrictlySortedBy key_order (q ∷ qs) = rises_by_key (q ∷ qs) s.1 (λ k d h. f (suc k) d (omega arith)) in
    let first : key_order p q ≡ Less = less_by_key p q s.0.0 (λ e. absurd (f zero p (omega arith) e)) in
    ((first, all_from (λ z. key_order p z ≡ Less) qs (λ z i. key_order_total.trans p q z first (all_at (λ w. key_order q w ≡ Less) qs z rest.0 i))), rest)

pub no_conflict : (ps : List Entry) → IsStrictlySortedBy pair_order ps → ((k : ℕ) (d : Entry) → k + 1 < length ps → (get_or ps k d).0 ≡ (get_or ps (k + 1) d).0 → ⊥) → HasConflict ps → ⊥
no_conflict ps s f =
    no_conflict_by_key ps (rises_by_key ps s (λ k d h e. f k d (omega arith) (subst (λ j. (get_or ps k d).0 ≡ (get_or ps j d).0) (sym (add-one k)) e)))

below_next : (ps : List Entry) (k : ℕ) (d : Entry) → IsStrictlySortedBy pair_order ps → suc k < length ps → pair_order (get_or ps k d) (get_or ps (suc k) d) ≡ Less
unfolding IsStrictlySortedBy
below_next [] k d s h = absurd (omega arith)
below_next (p ∷ []) k d s h = absurd (omega arith)
below_next (p ∷ (q ∷ qs)) zero d s h = s.0.0
below_next (p ∷ (q ∷ qs)) (suc k) d s h = below_next (q ∷ qs) k d s.1 (omega arith)

conflict_after : (ps : List Entry) (k : ℕ) (p q : Entry) → IsStrictlySortedBy pair_order ps → suc k < length ps → p ≡ get_or ps k p → q ≡ get_or ps (suc k) p → p.0 ≡ q.0 → HasConflict ps
conflict_after ps k p q s h d e same = record {
  key = p.0;
  value = p.1;
  other = q.1;
  first = subst (Contains ps) (sym d) (Contains-get_or ps k p (omega arith));
  second = subst (λ x. Contains ps (x, q.1)) (sym same) (subst (Contains ps) (sym e) (Contains-get_or ps (suc k) p h));
  differ = λ level. not_below_itself pair_order_total pair_same p q (λ i. (same i, level i))
      (subst (λ x. pair_order x q ≡ Less) (sym d) (subst (λ x. pair_order (get_or ps k p) x ≡ Less) (sym e) (below_next ps k p s h)));
}

-- the item at a place, whatever stands for an item past the end
at_any : (ps : List Entry) (k : ℕ) (d e : Entry) → k < length ps → get_or ps k d ≡ get_or ps k e
at_any [] k d e h = absurd (omega arith)
at_any (p ∷ ps) zero d e h = refl
at_any (p ∷ ps) (suc k) d e h = at_any ps k d e (omega arith)

-- the neighbours at a place, of which the second stands there
pub conflict : (ps : List Entry) (i : ℕ) (p q : Entry) → IsStrictlySortedBy pair_order ps → 0 < i → i < length ps → p ≡ get_or ps (i - 1) p → q ≡ get_or ps i q → (get_or ps (i - 1) p).0 ≡ (get_or ps i q).0 → HasConflict ps
conflict ps zero p q s h l d e same = absurd (omega arith)
conflict ps (suc k) p q s h l d e same =
    let back : suc k - 1 ≡ k = omega arith in
    conflict_after ps k p q s l (subst (λ j. p ≡ get_or ps j p) back d) (e ∙ at_any ps (suc k) q p l)
    (ap (λ (r : Entry). r.0) d ∙ same ∙ ap (λ (r : Entry). r.0) (sym e))

-- one more place, whose neighbours have two keys
pub apart_more : (ps : List Entry) (i : ℕ) (p q : Entry) → 0 < i → i < length ps → ((get_or ps (i - 1) p).0 ≡ (get_or ps i q).0 → ⊥)
    → ((k : ℕ) (d : Entry) → k + 1 < i → (get_or ps k d).0 ≡ (get_or ps (k + 1) d).0 → ⊥)
    → (k : ℕ) (d : Entry) → k + 1 < i + 1 → (get_or ps k d).0 ≡ (get_or ps (k + 1) d).0 → ⊥
apart_more ps i p q h l apart f k d g =
    below_more (λ j. (m : ℕ) (x : Entry) → m + 1 ≡ j → (get_or ps m x).0 ≡ (get_or ps (m + 1) x).0 → ⊥) i
    (λ j less m x e. f m x (omega arith))
    (λ m x e level.
    let back : i - 1 ≡ m = omega arith in
    let before : get_or ps (i - 1) p ≡ get_or ps m x = ap (λ j. get_or ps j p) back ∙ at_any ps m p x (omega arith) in
    let here : get_or ps (m + 1) x ≡ get_or ps i q = ap (λ j. get_or ps j x) e ∙ at_any ps i x q l in
    apart (ap (λ (r : Entry). r.0) before ∙ level ∙ ap (λ (r : Entry). r.0) here))
    (k + 1) g k d refl
