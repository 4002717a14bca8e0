-- The members of unions and intersections of sets of sets, of power sets, and of ranges.
use Rattle.std.proofs.Common.{◌≡◌, ◌↔◌, ◌<◌, ◌+◌, ℕ, zero, suc, ℤ, pos, ◌+ℤ◌, ◌-ℤ◌, unsigned_abs, ◌≤ℤ◌, Bool, true, false, List, [], ◌∷◌, map, length, cond, refl, ap, sym, ◌∙◌, subst, inl, inr, arith, rules, Contains}
use Rattle.std.specs.Prelude.{IfOk, int_le, if◌then◌else◌}
use Rattle.std.specs.List.{filter, flat_map}
use Rattle.std.proofs.lemmas.Int.{ints}
use lib.IntN.{+ℤ_idr, +ℤ_assoc}
use Rattle.vdm_kinds.specs.declared.operator.Operator.TheVariants.{Elements}
use Rattle.abstract_syntax.specs.Values.{ValueTree, number}
use Rattle.abstract_syntax.specs.ValueOrder.{value_order}
use Rattle.abstract_syntax.specs.ValueOrderTotal.{value_order_total, same_from_order}
use Rattle.abstract_syntax.specs.ValueSets.{set_value}
use Rattle.abstract_syntax.specs.Rising.{rising}
use Rattle.abstract_syntax.proofs.RisingLaws.{In, in_from_contains, contains_from_in, rising_rises, rising_keeps}
use Rattle.value_operators.specs.Members.{has, numbers_from, count_from_to}
use Rattle.value_operators.specs.Sets.{members_of, union_of_all, inter_of_all, in_every, sublists, power_set, interval}
use Rattle.value_operators.specs.Sequences.{positions, sequence_one}
use Rattle.value_operators.proofs.Lists.{set_members, set_level, set_rising, has_decides, in_from_has, has_from_in, in_filter, from_filter, in_left, in_right, from_append, all_in, all_by_in}
use Rattle.operator_laws.specs.Shares.{IsSetWithin, HasSome}
use Rattle.operator_laws.proofs.Parts.{if_sized, flat_members, from_map, in_map}

pub made_of : (xs : List ValueTree) (v : ValueTree) {A : Type 0} → Contains xs v ↔ A → Contains (members_of (set_value xs)) v ↔ A
made_of xs v h = (λ c. h.0 ((set_members xs v).0 c), λ a. (set_members xs v).1 (h.1 a))

pub union_members : (sets : List (List ValueTree)) (v : ValueTree) → IfOk (union_of_all sets) (λ s. Contains (members_of s) v ↔ HasSome sets v)
union_members sets v =
    if_sized (λ s. Contains (members_of s) v ↔ HasSome sets v) (set_value (flat_map (λ vs. vs) sets))
    (made_of (flat_map (λ vs. vs) sets) v (flat_members sets v))

-- ---- what all have

in_all_from : (vs : List ValueTree) (others : List (List ValueTree)) (v : ValueTree) → Contains (filter (in_every others) vs) v
    → (ws : List ValueTree) → Contains (vs ∷ others) ws → Contains ws v
in_all_from vs others v c ws d = by (in_from_contains (vs ∷ others) ws d)
  where
    h : In vs v × (in_every others v ≡ true)
    h = from_filter (in_every others) vs v (in_from_contains (filter (in_every others) vs) v c)

    by : In (vs ∷ others) ws → Contains ws v
    by (inl e) = subst (λ us. Contains us v) e (contains_from_in vs v h.0)
    by (inr j) = (has_decides ws v).0 (all_in (λ us. has us v) others ws h.1 j)

in_all_to : (vs : List ValueTree) (others : List (List ValueTree)) (v : ValueTree)
    → ((ws : List ValueTree) → Contains (vs ∷ others) ws → Contains ws v) → Contains (filter (in_every others) vs) v
in_all_to vs others v f =
    contains_from_in (filter (in_every others) vs) v
    (in_filter (in_every others) vs v (in_from_contains vs v (f vs (contains_from_in (vs ∷ others) vs (inl refl))))
    (all_by_in (λ us. has us v) others (λ us j. (has_decides us v).1 (f us (contains_from_in (vs ∷ others) us (inr j))))))

pub inter_members : (sets : List (List ValueTree)) (v : ValueTree) → IfOk (inter_of_all sets) (λ s. Contains (members_of s) v ↔ ((vs : List ValueTree) → Contains sets vs → Contains vs v))
inter_members [] v = tt
inter_members (vs ∷ others) v =
    if_sized (λ s. Contains (members_of s) v ↔ ((ws : List ValueTree) → Contains (vs ∷ others) ws → Contains ws v)) (set_value (filter (in_every others) vs))
    (made_of (filter (in_every others) vs) v (in_all_from vs others v, in_all_to vs others v))

-- ---- subsets

first_or_rest : (x : ValueTree) (vs us ws : List ValueTree) (v : ValueTree) → (In ws v → In vs v) → x ∷ ws ≡ us → In us v → In (x ∷ vs) v
first_or_rest x vs us ws v f e j = by (subst (λ zs. In zs v) (sym e) j)
  where
    by : In (x ∷ ws) v → In (x ∷ vs) v
    by (inl same) = inl same
    by (inr k) = inr (f k)

within_sublist : (vs us : List ValueTree) → In (sublists vs) us → (v : ValueTree) → In us v → In vs v
within_sublist [] us (inl e) v j = subst (λ ws. In ws v) (sym e) j
within_sublist [] us (inr i) v j = absurd i
within_sublist (x ∷ vs) us i v j =
    elim (from_append (map (λ ws. x ∷ ws) (sublists vs)) (sublists vs) us i) [
      | inl k ↦ let found = from_map (λ ws. x ∷ ws) (sublists vs) us k in first_or_rest x vs us found.0 v (within_sublist vs found.0 found.1 v) found.2 j
      | inr k ↦ inr (within_sublist vs us k v j)
    ]

filter_sublist : (p : ValueTree → Bool) (vs : List ValueTree) → In (sublists vs) (filter p vs)
filter_sublist p [] = inl refl
filter_sublist p (x ∷ vs) = by (p x) (filter_sublist p vs)
  where
    by : (r : Bool) → In (sublists vs) (filter p vs) → In (sublists (x ∷ vs)) (cond r (x ∷ filter p vs) (filter p vs))
    by true i = in_left (map (λ ws. x ∷ ws) (sublists vs)) (sublists vs) (x ∷ filter p vs) (in_map (λ ws. x ∷ ws) (sublists vs) (filter p vs) i)
    by false i = in_right (map (λ ws. x ∷ ws) (sublists vs)) (sublists vs) (filter p vs) i

set_within : (vs us : List ValueTree) (s : ValueTree) → In (sublists vs) us → set_value us ≡ s → IsSetWithin vs s
set_within vs us s i e = record {
  members = rising value_order us;
  rise = rising_rises value_order_total same_from_order us;
  value = sym e;
  within = λ v c. contains_from_in vs v (within_sublist vs us i v (in_from_contains us v ((rising_keeps value_order_total same_from_order us v).0 c)));
}

is_subset : (vs : List ValueTree) (s : ValueTree) (h : IsSetWithin vs s) → set_value (filter (has h.members) vs) ≡ s
is_subset vs s h =
    set_level (filter (has h.members) vs) h.members
    (λ v i. in_from_has h.members v (from_filter (has h.members) vs v i).1)
    (λ v i. in_filter (has h.members) vs v (in_from_contains vs v (h.within v (contains_from_in h.members v i))) (has_from_in h.members v i))
    ∙ set_rising h.members h.rise ∙ sym h.value

sets_of_sublists : (vs : List ValueTree) (s : ValueTree) → Contains (map set_value (sublists vs)) s ↔ IsSetWithin vs s
sets_of_sublists vs s = (
  λ c. let found = from_map set_value (sublists vs) s (in_from_contains (map set_value (sublists vs)) s c) in
      set_within vs found.0 s found.1 found.2,
  λ h. contains_from_in (map set_value (sublists vs)) s
      (subst (In (map set_value (sublists vs))) (is_subset vs s h) (in_map set_value (sublists vs) (filter (has h.members) vs) (filter_sublist (has h.members) vs))),
)

pub power_members : (vs : List ValueTree) (s : ValueTree) → Contains (members_of (power_set vs)) s ↔ IsSetWithin vs s
power_members vs s = made_of (map set_value (sublists vs)) s (sets_of_sublists vs s)

-- ---- numbers that follow each other

pub next : (m : ℤ) (k : ℕ) → (m +ℤ pos 1) +ℤ pos k ≡ m +ℤ pos (suc k)
next m k = let one : 1 + k ≡ suc k = omega arith in +ℤ_assoc m (pos 1) (pos k) ∙ ap (λ j. m +ℤ pos j) one

from_numbers : (m : ℤ) (count : ℕ) (v : ValueTree) → In (numbers_from m count) v → (k : ℕ) × (v ≡ number (m +ℤ pos k)) × (k < count)
from_numbers m zero v i = absurd i
from_numbers m (suc count) v (inl e) = (zero, sym e ∙ ap number (sym (+ℤ_idr m)), omega arith)
from_numbers m (suc count) v (inr i) =
    let found = from_numbers (m +ℤ pos 1) count v i in (suc found.0, found.1 ∙ ap number (next m found.0), omega (arith, found.2))

in_numbers : (m : ℤ) (count k : ℕ) → k < count → In (numbers_from m count) (number (m +ℤ pos k))
in_numbers m zero k h = absurd (omega (arith, h))
in_numbers m (suc count) zero h = inl (ap number (sym (+ℤ_idr m)))
in_numbers m (suc count) (suc k) h = inr (subst (λ z. In (numbers_from (m +ℤ pos 1) count) (number z)) (next m k) (in_numbers (m +ℤ pos 1) count k (omega (arith, h))))

pub position_members : (vs : List ValueTree) (v : ValueTree) → Contains (members_of (positions vs)) v ↔ ((k : ℕ) × (v ≡ number (pos (suc k))) × (k < length vs))
position_members vs v = made_of (numbers_from (pos 1) (length vs)) v (
  λ c. let found = from_numbers (pos 1) (length vs) v (in_from_contains (numbers_from (pos 1) (length vs)) v c) in
      (found.0, found.1 ∙ ap (λ j. number (pos j)) (one found.0), found.2),
  λ h. contains_from_in (numbers_from (pos 1) (length vs)) v
      (subst (In (numbers_from (pos 1) (length vs))) (ap (λ j. number (pos j)) (one h.0) ∙ sym h.1) (in_numbers (pos 1) (length vs) h.0 h.2)),
)
  where
    one : (k : ℕ) → 1 + k ≡ suc k
    one k = omega arith

pub element_members : (vs : List ValueTree) (v : ValueTree) → IfOk (sequence_one Elements vs) (λ s. Contains (members_of s) v ↔ Contains vs v)
element_members vs v = if_sized (λ s. Contains (members_of s) v ↔ Contains vs v) (set_value vs) (set_members vs v)

-- ---- ranges

le_true : (m n : ℤ) → m ≤ℤ n → int_le m n ≡ true
le_true m n h = search (rules, h)

ahead : (m n k : ℤ) (j : ℕ) (r : Bool) → int_le m n ≡ r → k ≡ m +ℤ pos j → j < (if r then suc (unsigned_abs (n -ℤ m)) else 0) → (m ≤ℤ k) × (k ≤ℤ n)
ahead m n k j true e f h = let l : m ≤ℤ n = search (rules, e) in (omega (arith, ints, f), omega (arith, ints, f, h, l))
ahead m n k j false e f h = absurd (omega (arith, h))

count_ahead : (m n k : ℤ) → m ≤ℤ k → k ≤ℤ n → unsigned_abs (k -ℤ m) < count_from_to m n
count_ahead m n k h l =
    let longer : unsigned_abs (k -ℤ m) < suc (unsigned_abs (n -ℤ m)) = omega (arith, ints, h, l) in
    let whole : m ≤ℤ n = omega (arith, ints, h, l) in
    subst (λ r. unsigned_abs (k -ℤ m) < (if r then suc (unsigned_abs (n -ℤ m)) else 0)) (sym (le_true m n whole)) longer

back : (m k : ℤ) → m ≤ℤ k → m +ℤ pos (unsigned_abs (k -ℤ m)) ≡ k
back m k h = omega (arith, ints, h)

pub interval_members : (m n : ℤ) (v : ValueTree) → Contains (members_of (interval m n)) v ↔ ((k : ℤ) × (v ≡ number k) × (m ≤ℤ k) × (k ≤ℤ n))
interval_members m n v = made_of (numbers_from m (count_from_to m n)) v (
  λ c. let found = from_numbers m (count_from_to m n) v (in_from_contains (numbers_from m (count_from_to m n)) v c) in
      let bounds = ahead m n (m +ℤ pos found.0) found.0 (int_le m n) refl refl found.2 in
      (m +ℤ pos found.0, found.1, bounds.0, bounds.1),
  λ h. contains_from_in (numbers_from m (count_from_to m n)) v
      (subst (In (numbers_from m (count_from_to m n))) (ap number (back m h.0 h.2) ∙ sym h.1)
      (in_numbers m (count_from_to m n) (unsigned_abs (h.0 -ℤ m)) (count_ahead m n h.0 h.2 h.3))),
)
