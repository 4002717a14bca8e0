-- The laws of maps as values.
use Rattle.std.specs.Prelude.{◌≡◌, ◌↔◌, List, [], ◌∷◌, refl, Contains, All}
use Rattle.std.proofs.Common.{ap, sym, ◌∙◌, subst, inl, inr}
use Rattle.std.proofs.lemmas.List.Elements.{All-contains}
use Rattle.std.specs.declared.cmp.Ordering.{Ordering}
use Rattle.std.specs.declared.cmp.Ordering.TheVariants.{Less, Equal, Greater}
use Rattle.std.specs.Ordering.{ordering_then}
use Rattle.std.specs.Cmp.{IsTotalOrder, on_total, then_total}
use Rattle.std.specs.List.Sorted.{IsStrictlySortedBy}
use Rattle.abstract_syntax.specs.Values.{ValueTree, value_trees, pair_trees, value_list-value_trees, pair_list-pair_trees}
use Rattle.abstract_syntax.specs.ValueOrder.{value_order}
use Rattle.abstract_syntax.specs.ValueOrderTotal.{value_order_total, same_from_order, order_of_itself}
use Rattle.abstract_syntax.specs.Rising.{rising}
use Rattle.abstract_syntax.proofs.RisingLaws.{In, in_from_contains, contains_from_in, all_at, all_from, not_below_itself, Less≢Equal, rising_rises, rising_keeps, rising_once}
use Rattle.abstract_syntax.specs.ValueSets.{Entry, pair_order, key_order, set_value, map_value, HasConflict, IsCanonical, AreCanonical, AreCanonicalPairs}

pub pair_order_total : IsTotalOrder pair_order
pair_order_total = then_total (on_total (λ (p : Entry). p.0) value_order_total) (on_total (λ (p : Entry). p.1) value_order_total)

pub key_order_total : IsTotalOrder key_order
key_order_total = on_total (λ (p : Entry). p.0) value_order_total

level_parts : (r s : Ordering) → ordering_then r s ≡ Equal → (r ≡ Equal) × (s ≡ Equal)
level_parts Less s e = cc
level_parts Equal s e = (refl, e)
level_parts Greater s e = cc

pub pair_same : (p q : Entry) → pair_order p q ≡ Equal → p ≡ q
pair_same p q e =
    let both : (value_order p.0 q.0 ≡ Equal) × (value_order p.1 q.1 ≡ Equal) = level_parts _ _ e in
    λ i. (same_from_order p.0 q.0 both.0 i, same_from_order p.1 q.1 both.1 i)

-- ---- from the order of pairs to that of keys

-- of two pairs in order, whose values are the same where their keys are, the first has the lesser key
pub less_by_key : (p q : Entry) → pair_order p q ≡ Less → (p.0 ≡ q.0 → p.1 ≡ q.1) → key_order p q ≡ Less
less_by_key p q e f = by (value_order p.0 q.0) e (λ l. f (same_from_order p.0 q.0 l))
  where
    by : (r : Ordering) → ordering_then r (value_order p.1 q.1) ≡ Less → (r ≡ Equal → p.1 ≡ q.1) → r ≡ Less
    by Less d g = refl
    by Equal d g = absurd (not_below_itself value_order_total same_from_order p.1 q.1 (g refl) d)
    by Greater d g = d

keys_rise : (ps : List Entry) → IsStrictlySortedBy pair_order ps → ((p q : Entry) → In ps p → In ps q → p.0 ≡ q.0 → p.1 ≡ q.1) → IsStrictlySortedBy key_order ps
unfolding IsStrictlySortedBy
keys_rise [] s f = tt
keys_rise (p ∷ ps) s f = (
  all_from (λ q. key_order p q ≡ Less) ps (λ q i. less_by_key p q (all_at (λ w. pair_order p w ≡ Less) ps q s.0 i) (f p q (inl refl) (inr i))),
  keys_rise ps s.1 (λ p q i j. f p q (inr i) (inr j)),
)

-- a list that rises by key rises by pair
pairs_rise : (ps : List Entry) → IsStrictlySortedBy key_order ps → IsStrictlySortedBy pair_order ps
unfolding IsStrictlySortedBy
pairs_rise [] s = tt
pairs_rise (p ∷ ps) s = (
  all_from (λ q. pair_order p q ≡ Less) ps (λ q i. ap (λ r. ordering_then r (value_order p.1 q.1)) (all_at (λ w. key_order p w ≡ Less) ps q s.0 i)),
  pairs_rise ps s.1,
)

-- in a list that rises by key, one key has one value
one_value_a_key : (ps : List Entry) (p q : Entry) → IsStrictlySortedBy key_order ps → In ps p → In ps q → p.0 ≡ q.0 → p.1 ≡ q.1
unfolding IsStrictlySortedBy
one_value_a_key [] p q s i j e = absurd i
one_value_a_key (r ∷ ps) p q s (inl d) (inl e) h = ap (λ (x : Entry). x.1) (sym d ∙ e)
one_value_a_key (r ∷ ps) p q s (inl d) (inr j) h =
    absurd (not_below_itself value_order_total same_from_order r.0 q.0 (ap (λ (x : Entry). x.0) d ∙ h) (all_at (λ w. key_order r w ≡ Less) ps q s.0 j))
one_value_a_key (r ∷ ps) p q s (inr i) (inl e) h =
    absurd (not_below_itself value_order_total same_from_order r.0 p.0 (ap (λ (x : Entry). x.0) e ∙ sym h) (all_at (λ w. key_order r w ≡ Less) ps p s.0 i))
one_value_a_key (r ∷ ps) p q s (inr i) (inr j) h = one_value_a_key ps p q s.1 i j h

-- ---- conflicts

pub conflict_moves : (ps qs : List Entry) → ((p : Entry) → Contains ps p → Contains qs p) → HasConflict ps → HasConflict qs
conflict_moves ps qs f c = record {
  key = c.key;
  value = c.value;
  other = c.other;
  first = f (c.key, c.value) c.first;
  second = f (c.key, c.other) c.second;
  differ = c.differ;
}

pub no_conflict_by_key : (ps : List Entry) → IsStrictlySortedBy key_order ps → HasConflict ps → ⊥
no_conflict_by_key ps s c =
    c.differ (one_value_a_key ps (c.key, c.value) (c.key, c.other) s (in_from_contains ps _ c.first) (in_from_contains ps _ c.second) refl)

-- values under one key are the same, where there is no conflict
one_value_without_conflict : (ps : List Entry) → (HasConflict ps → ⊥) → (p q : Entry) → Contains ps p → Contains ps q → p.0 ≡ q.0 → p.1 ≡ q.1
one_value_without_conflict ps free p q i j e = by (value_order p.1 q.1) refl
  where
    conflict : (value_order p.1 q.1 ≡ Equal → ⊥) → HasConflict ps
    conflict apart = record {
      key = p.0;
      value = p.1;
      other = q.1;
      first = i;
      second = subst (λ k. Contains ps (k, q.1)) (sym e) j;
      differ = λ d. apart (ap (value_order p.1) (sym d) ∙ order_of_itself p.1);
    }

    by : (r : Ordering) → value_order p.1 q.1 ≡ r → p.1 ≡ q.1
    by Less d = absurd (free (conflict (λ l. Less≢Equal (sym d ∙ l))))
    by Equal d = same_from_order p.1 q.1 d
    by Greater d = absurd (free (conflict (λ l. cc)))

-- ---- the laws

pub map_rises : (pairs : List Entry) → (HasConflict pairs → ⊥) → IsStrictlySortedBy key_order (rising pair_order pairs)
map_rises pairs free =
    keys_rise (rising pair_order pairs) (rising_rises pair_order_total pair_same pairs)
    (λ p q i j. one_value_without_conflict pairs free p q
    ((rising_keeps pair_order_total pair_same pairs p).0 (contains_from_in _ p i))
    ((rising_keeps pair_order_total pair_same pairs q).0 (contains_from_in _ q j)))

pub map_once : (ps qs : List Entry) → IsStrictlySortedBy key_order ps → IsStrictlySortedBy key_order qs → ((p : Entry) → Contains ps p ↔ Contains qs p) → ps ≡ qs
map_once ps qs s t f = rising_once pair_order_total pair_same ps qs (pairs_rise ps s) (pairs_rise qs t) f

pub no_map : (pairs ps : List Entry) → HasConflict pairs → IsStrictlySortedBy key_order ps → ((p : Entry) → Contains ps p ↔ Contains pairs p) → ⊥
no_map pairs ps c s f = no_conflict_by_key ps s (conflict_moves pairs ps (λ p i. (f p).1 i) c)

-- ---- canonical parts

all_canonical : (vs : List ValueTree) → ((v : ValueTree) → In vs v → IsCanonical v) → AreCanonical (value_trees vs)
all_canonical [] f = tt
all_canonical (v ∷ vs) f = (f v (inl refl), all_canonical vs (λ w i. f w (inr i)))

all_canonical_pairs : (ps : List Entry) → ((p : Entry) → In ps p → IsCanonical p.0 × IsCanonical p.1) → AreCanonicalPairs (pair_trees ps)
all_canonical_pairs [] f = tt
all_canonical_pairs (p ∷ ps) f = ((f p (inl refl)).0, (f p (inl refl)).1, all_canonical_pairs ps (λ q i. f q (inr i)))

pub set_is_canonical : (items : List ValueTree) → All IsCanonical items → IsCanonical (set_value items)
set_is_canonical items a = (
  all_canonical _ (λ v i. All-contains IsCanonical items v a ((rising_keeps value_order_total same_from_order items v).0 (contains_from_in _ v i))),
  subst (IsStrictlySortedBy value_order) (sym (value_list-value_trees _)) (rising_rises value_order_total same_from_order items),
)

pub map_is_canonical : (pairs : List Entry) → (HasConflict pairs → ⊥) → All (λ (p : Entry). IsCanonical p.0 × IsCanonical p.1) pairs → IsCanonical (map_value pairs)
map_is_canonical pairs free a = (
  all_canonical_pairs _ (λ p i. All-contains (λ (q : Entry). IsCanonical q.0 × IsCanonical q.1) pairs p a ((rising_keeps pair_order_total pair_same pairs p).0 (contains_from_in _ p i))),
  subst (IsStrictlySortedBy key_order) (sym (pair_list-pair_trees _)) (map_rises pairs free),
)
