-- The pairs of maps that are made of maps.
use Rattle.std.proofs.Common.{◌≡◌, ◌↔◌, ◌⊎◌, Bool, true, false, not, List, [], ◌∷◌, ◌++◌, map, refl, ap, sym, ◌∙◌, subst, inl, inr, Contains, Some, Err}
use Rattle.std.specs.Prelude.{IfOk, if◌then◌else◌}
use Rattle.std.specs.Option.{unwrap_or}
use Rattle.std.specs.List.{filter, list_all, flat_map}
use Rattle.std.specs.List.Sorted.{IsStrictlySortedBy}
use Rattle.std.specs.declared.cmp.Ordering.TheVariants.{Less}
use Rattle.vdm_kinds.specs.declared.operator.Operator.TheVariants.{Domain, Range}
use Rattle.vdm_kinds.specs.declared.run_fault.RunFault.TheVariants.{MapConflict, NotInDomain}
use Rattle.abstract_syntax.specs.Values.{ValueTree, pair_list-pair_trees}
use Rattle.abstract_syntax.specs.ValueOrder.{value_order}
use Rattle.abstract_syntax.specs.ValueOrderTotal.{order_of_itself}
use Rattle.abstract_syntax.specs.ValueCode.{value_code}
use Rattle.abstract_syntax.specs.SameBy.{same_by-decides}
use Rattle.abstract_syntax.specs.ValueSets.{Entry, set_value, map_value, pair_order, key_order, HasConflict}
use Rattle.abstract_syntax.specs.Rising.{rising}
use Rattle.abstract_syntax.proofs.RisingLaws.{In, in_from_contains, contains_from_in, rising_keeps, all_at, Less≢Equal}
use Rattle.abstract_syntax.proofs.MapLaws.{pair_order_total, pair_same}
use Rattle.value_operators.specs.Outcomes.{sized}
use Rattle.value_operators.specs.Numbers.{is_same}
use Rattle.value_operators.specs.Members.{has, found}
use Rattle.value_operators.specs.Sets.{members_of}
use Rattle.value_operators.specs.Maps.{pairs_of, keys, values, map_one, turned, is_in_conflict, joined, merged, overridden, kept_keys, removed_keys, kept_values, removed_values, through, leads_on, composed}
use Rattle.value_operators.proofs.Lists.{has_decides, all_in}
use Rattle.value_operators.proofs.Conflicts.{conflict_decided}
use Rattle.operator_laws.specs.Shares.{HasSome}
use Rattle.operator_laws.proofs.Parts.{if_sized, flat_members, append_members, kept_members, removed_members, from_map, in_map}
use Rattle.operator_laws.proofs.SetMembers.{made_of}

-- a map has the pairs that it is made of
map_pairs : (ps : List Entry) (p : Entry) → Contains (pairs_of (map_value ps)) p ↔ Contains ps p
map_pairs ps p =
    let e : pairs_of (map_value ps) ≡ rising pair_order ps = pair_list-pair_trees (rising pair_order ps) in
    let kept = rising_keeps pair_order_total pair_same ps p in
    (λ c. kept.0 (subst (λ qs. Contains qs p) e c), λ c. subst (λ qs. Contains qs p) (sym e) (kept.1 c))

pub map_of_pairs : (ps : List Entry) (p : Entry) {A : Type 0} → Contains ps p ↔ A → Contains (pairs_of (map_value ps)) p ↔ A
map_of_pairs ps p h = (λ c. h.0 ((map_pairs ps p).0 c), λ a. (map_pairs ps p).1 (h.1 a))

-- ---- keys and values

key_members : (ps : List Entry) (k : ValueTree) → Contains (keys ps) k ↔ ((v : ValueTree) × Contains ps (k, v))
key_members ps k = (
  λ c. let found = from_map (λ (p : Entry). p.0) ps k (in_from_contains (keys ps) k c) in
      (found.0.1, subst (λ j. Contains ps (j, found.0.1)) found.2 (contains_from_in ps found.0 found.1)),
  λ h. contains_from_in (keys ps) k (in_map (λ (p : Entry). p.0) ps (k, h.0) (in_from_contains ps (k, h.0) h.1)),
)

value_members : (ps : List Entry) (v : ValueTree) → Contains (values ps) v ↔ ((k : ValueTree) × Contains ps (k, v))
value_members ps v = (
  λ c. let found = from_map (λ (p : Entry). p.1) ps v (in_from_contains (values ps) v c) in
      (found.0.0, subst (λ j. Contains ps (found.0.0, j)) found.2 (contains_from_in ps found.0 found.1)),
  λ h. contains_from_in (values ps) v (in_map (λ (p : Entry). p.1) ps (h.0, v) (in_from_contains ps (h.0, v) h.1)),
)

pub domain_members : (ps : List Entry) (k : ValueTree) → IfOk (map_one Domain ps) (λ s. Contains (members_of s) k ↔ ((v : ValueTree) × Contains ps (k, v)))
domain_members ps k = if_sized (λ s. Contains (members_of s) k ↔ ((v : ValueTree) × Contains ps (k, v))) (set_value (keys ps)) (made_of (keys ps) k (key_members ps k))

pub range_members : (ps : List Entry) (v : ValueTree) → IfOk (map_one Range ps) (λ s. Contains (members_of s) v ↔ ((k : ValueTree) × Contains ps (k, v)))
range_members ps v = if_sized (λ s. Contains (members_of s) v ↔ ((k : ValueTree) × Contains ps (k, v))) (set_value (values ps)) (made_of (values ps) v (value_members ps v))

-- ---- look-ups

some_same : (x y : ValueTree) → Some x ≡ Some y → x ≡ y
some_same x y h = cc

from_found : (ps : List Entry) (k v : ValueTree) → found ps k ≡ Some v → In ps (k, v)
from_found [] k v e = cc
from_found (p ∷ ps) k v e = by (from_found ps k v) (is_same p.0 k) refl e
  where
    by : (found ps k ≡ Some v → In ps (k, v)) → (r : Bool) → is_same p.0 k ≡ r → (if r then Some p.1 else found ps k) ≡ Some v → In (p ∷ ps) (k, v)
    by f true s h = inl (λ i. ((same_by-decides value_code p.0 k).0 s i, some_same p.1 v h i))
    by f false s h = inr (f h)

less_key : (p : Entry) (ps : List Entry) (k v : ValueTree) → IsStrictlySortedBy key_order (p ∷ ps) → In ps (k, v) → value_order p.0 k ≡ Less
unfolding IsStrictlySortedBy
less_key p ps k v s i = all_at (λ w. key_order p w ≡ Less) ps (k, v) s.0 i

other_key : (p : Entry) (ps : List Entry) (k v : ValueTree) → IsStrictlySortedBy key_order (p ∷ ps) → In ps (k, v) → is_same p.0 k ≡ true → ⊥
other_key p ps k v s i e =
    Less≢Equal (sym (less_key p ps k v s i) ∙ ap (λ w. value_order w k) ((same_by-decides value_code p.0 k).0 e) ∙ order_of_itself k)

past : (p : Entry) (ps : List Entry) (k v : ValueTree) → (is_same p.0 k ≡ true → ⊥) → found ps k ≡ Some v → found (p ∷ ps) k ≡ Some v
past p ps k v f e = by (is_same p.0 k) refl
  where
    by : (r : Bool) → is_same p.0 k ≡ r → (if r then Some p.1 else found ps k) ≡ Some v
    by true s = absurd (f s)
    by false s = e

to_found : (ps : List Entry) (k v : ValueTree) → IsStrictlySortedBy key_order ps → In ps (k, v) → found ps k ≡ Some v
unfolding IsStrictlySortedBy
to_found [] k v s i = absurd i
to_found (p ∷ ps) k v s (inl e) =
    ap (λ r. if r then Some p.1 else found ps k) ((same_by-decides value_code p.0 k).1 (ap (λ (q : Entry). q.0) e)) ∙ ap (λ (q : Entry). Some q.1) e
to_found (p ∷ ps) k v s (inr i) = past p ps k v (other_key p ps k v s i) (to_found ps k v s.1 i)

pub found_pairs : (ps : List Entry) (k v : ValueTree) → IsStrictlySortedBy key_order ps → (found ps k ≡ Some v) ↔ Contains ps (k, v)
found_pairs ps k v s = (λ e. contains_from_in ps (k, v) (from_found ps k v e), λ c. to_found ps k v s (in_from_contains ps (k, v) c))

-- ---- unions, merges and inverses

if_joined : (P : ValueTree → Type 0) (ps : List Entry) → P (map_value ps) → IfOk (joined ps) P
if_joined P ps h = by (is_in_conflict ps)
  where
    by : (r : Bool) → IfOk (if r then Err MapConflict else sized (map_value ps)) P
    by true = tt
    by false = if_sized P (map_value ps) h

joined_pairs : (ps : List Entry) (p : Entry) {A : Type 0} → Contains ps p ↔ A → IfOk (joined ps) (λ m. Contains (pairs_of m) p ↔ A)
joined_pairs ps p {A} h = if_joined (λ m. Contains (pairs_of m) p ↔ A) ps (map_of_pairs ps p h)

pub union_pairs : (ps qs : List Entry) (p : Entry) → IfOk (joined (ps ++ qs)) (λ m. Contains (pairs_of m) p ↔ Contains ps p ⊎ Contains qs p)
union_pairs ps qs p = joined_pairs (ps ++ qs) p (append_members ps qs p)

pub merged_pairs : (maps : List (List Entry)) (p : Entry) → IfOk (merged maps) (λ m. Contains (pairs_of m) p ↔ HasSome maps p)
merged_pairs maps p = joined_pairs (flat_map (λ ps. ps) maps) p (flat_members maps p)

turned_members : (ps : List Entry) (k v : ValueTree) → Contains (turned ps) (v, k) ↔ Contains ps (k, v)
turned_members ps k v = (
  λ c. let found = from_map (λ (p : Entry). (p.1, p.0)) ps (v, k) (in_from_contains (turned ps) (v, k) c) in
      subst (Contains ps) (λ i. ((found.2 i).1, (found.2 i).0)) (contains_from_in ps found.0 found.1),
  λ c. contains_from_in (turned ps) (v, k) (in_map (λ (p : Entry). (p.1, p.0)) ps (k, v) (in_from_contains ps (k, v) c)),
)

pub inverse_pairs : (ps : List Entry) (k v : ValueTree) → IfOk (joined (turned ps)) (λ m. Contains (pairs_of m) (v, k) ↔ Contains ps (k, v))
inverse_pairs ps k v = joined_pairs (turned ps) (v, k) (turned_members ps k v)

pub conflict_is_fault : (ps : List Entry) → HasConflict ps → joined ps ≡ Err MapConflict
conflict_is_fault ps h = ap (λ r. if r then Err MapConflict else sized (map_value ps)) ((conflict_decided ps).some h)

pub free_is_joined : (ps : List Entry) → (HasConflict ps → ⊥) → joined ps ≡ sized (map_value ps)
free_is_joined ps f = ap (λ r. if r then Err MapConflict else sized (map_value ps)) ((conflict_decided ps).none f)

-- ---- overrides and restrictions

left_or_right : (ps qs : List Entry) (p : Entry) → Contains (filter (λ q. not (has (keys qs) q.0)) ps ++ qs) p ↔ (Contains ps p × (Contains (keys qs) p.0 → ⊥)) ⊎ Contains qs p
left_or_right ps qs p =
    let both = append_members (filter (λ (q : Entry). not (has (keys qs) q.0)) ps) qs p in
    let left = removed_members (λ (q : Entry). q.0) (keys qs) ps p in
    (λ c. elim (both.0 c) [ inl d ↦ inl (left.0 d) | inr d ↦ inr d ], λ h. both.1 (elim h [ inl d ↦ inl (left.1 d) | inr d ↦ inr d ]))

pub override_pairs : (ps qs : List Entry) (p : Entry) → Contains (pairs_of (overridden ps qs)) p ↔ (Contains ps p × (Contains (keys qs) p.0 → ⊥)) ⊎ Contains qs p
override_pairs ps qs p = map_of_pairs (filter (λ (q : Entry). not (has (keys qs) q.0)) ps ++ qs) p (left_or_right ps qs p)

pub kept_key_pairs : (vs : List ValueTree) (ps : List Entry) (p : Entry) → Contains (pairs_of (kept_keys vs ps)) p ↔ Contains ps p × Contains vs p.0
kept_key_pairs vs ps p = map_of_pairs (filter (λ (q : Entry). has vs q.0) ps) p (kept_members (λ (q : Entry). q.0) vs ps p)

pub removed_key_pairs : (vs : List ValueTree) (ps : List Entry) (p : Entry) → Contains (pairs_of (removed_keys vs ps)) p ↔ Contains ps p × (Contains vs p.0 → ⊥)
removed_key_pairs vs ps p = map_of_pairs (filter (λ (q : Entry). not (has vs q.0)) ps) p (removed_members (λ (q : Entry). q.0) vs ps p)

pub kept_value_pairs : (vs : List ValueTree) (ps : List Entry) (p : Entry) → Contains (pairs_of (kept_values vs ps)) p ↔ Contains ps p × Contains vs p.1
kept_value_pairs vs ps p = map_of_pairs (filter (λ (q : Entry). has vs q.1) ps) p (kept_members (λ (q : Entry). q.1) vs ps p)

pub removed_value_pairs : (vs : List ValueTree) (ps : List Entry) (p : Entry) → Contains (pairs_of (removed_values vs ps)) p ↔ Contains ps p × (Contains vs p.1 → ⊥)
removed_value_pairs vs ps p = map_of_pairs (filter (λ (q : Entry). not (has vs q.1)) ps) p (removed_members (λ (q : Entry). q.1) vs ps p)

-- ---- compositions

through_found : (ps : List Entry) (k v w : ValueTree) → found ps v ≡ Some w → through ps (k, v) ≡ (k, w)
through_found ps k v w e = λ i. (k, unwrap_or (e i) v)

leads_to : (ps : List Entry) (q : Entry) → IsStrictlySortedBy key_order ps → leads_on ps q ≡ true → (w : ValueTree) × Contains ps (q.1, w) × (through ps q ≡ (q.0, w))
leads_to ps q s e =
    let next = (key_members ps q.1).0 ((has_decides (keys ps) q.1).0 e) in
    (next.0, next.1, through_found ps q.0 q.1 next.0 (to_found ps q.1 next.0 s (in_from_contains ps (q.1, next.0) next.1)))

composed_members : (ps qs : List Entry) (k w : ValueTree) → IsStrictlySortedBy key_order ps → list_all (leads_on ps) qs ≡ true
    → Contains (map (through ps) qs) (k, w) ↔ ((v : ValueTree) × Contains qs (k, v) × Contains ps (v, w))
composed_members ps qs k w s all = (
  λ c. let first = from_map (through ps) qs (k, w) (in_from_contains (map (through ps) qs) (k, w) c) in
      let last = leads_to ps first.0 s (all_in (leads_on ps) qs first.0 all first.1) in
      let same : (first.0.0, last.0) ≡ (k, w) = sym last.2 ∙ first.2 in (
        first.0.1,
        subst (λ (p : Entry). Contains qs (p.0, first.0.1)) same (contains_from_in qs first.0 first.1),
        subst (λ (p : Entry). Contains ps (first.0.1, p.1)) same last.1,
      ),
  λ h. contains_from_in (map (through ps) qs) (k, w)
      (subst (In (map (through ps) qs)) (through_found ps k h.0 w (to_found ps h.0 w s (in_from_contains ps (h.0, w) h.2)))
      (in_map (through ps) qs (k, h.0) (in_from_contains qs (k, h.0) h.1))),
)

pub composed_pairs : (ps qs : List Entry) (k w : ValueTree) → IsStrictlySortedBy key_order ps
    → IfOk (composed ps qs) (λ m. Contains (pairs_of m) (k, w) ↔ ((v : ValueTree) × Contains qs (k, v) × Contains ps (v, w)))
composed_pairs ps qs k w s = by (list_all (leads_on ps) qs) refl
  where
    by : (r : Bool) → list_all (leads_on ps) qs ≡ r
        → IfOk (if r then sized (map_value (map (through ps) qs)) else Err NotInDomain) (λ m. Contains (pairs_of m) (k, w) ↔ ((v : ValueTree) × Contains qs (k, v) × Contains ps (v, w)))
    by true e =
        if_sized (λ m. Contains (pairs_of m) (k, w) ↔ ((v : ValueTree) × Contains qs (k, v) × Contains ps (v, w))) (map_value (map (through ps) qs))
        (map_of_pairs (map (through ps) qs) (k, w) (composed_members ps qs k w s e))
    by false e = tt
