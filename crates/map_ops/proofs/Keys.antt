-- Keys of maps, and maps of the pairs of two.
use Rattle.std.proofs.Common.{◌≡◌, ◌||◌, Bool, true, false, not, List, [], ◌∷◌, ◌++◌, refl, ap, sym, ◌∙◌, inl, inr, true≢false, Some, is_some}
use Rattle.std.specs.Prelude.{if◌then◌else◌, Err}
use Rattle.std.specs.declared.cmp.Ordering.TheVariants.{Less}
use Rattle.std.specs.List.{filter, AllByRecursion}
use Rattle.std.specs.List.Sorted.{IsStrictlySortedBy}
use Rattle.std.proofs.lemmas.List.Kept.{IsStrictlySortedBy-filter}
use Rattle.abstract_syntax.specs.Values.{ValueTree, set_of, value_trees}
use Rattle.abstract_syntax.specs.ValueOrder.{value_order}
use Rattle.abstract_syntax.specs.ValueCode.{value_code}
use Rattle.abstract_syntax.specs.SameBy.{same_by-decides}
use Rattle.abstract_syntax.specs.ValueSets.{Entry, key_order, set_value, map_value, HasConflict}
use Rattle.abstract_syntax.proofs.RisingLaws.{In, in_from_contains, contains_from_in}
use Rattle.abstract_syntax.proofs.MapLaws.{no_conflict_by_key}
use Rattle.vdm_kinds.specs.declared.run_fault.RunFault.TheVariants.{MapConflict}
use Rattle.value_operators.specs.Numbers.{is_same}
use Rattle.value_operators.specs.Members.{has, found}
use Rattle.value_operators.specs.Outcomes.{sized}
use Rattle.value_operators.specs.Maps.{keys, joined, overridden}
use Rattle.value_operators.proofs.Lists.{has_from_in, from_filter, from_append, set_rising}
use Rattle.value_operators.proofs.Conflicts.{conflict_decided}

-- ---- the keys of a map rise

keys_above : (p : Entry) (ps : List Entry) → AllByRecursion (λ q. key_order p q ≡ Less) ps → AllByRecursion (λ k. value_order p.0 k ≡ Less) (keys ps)
keys_above p [] a = tt
keys_above p (q ∷ qs) a = (a.0, keys_above p qs a.1)

pub keys_rise : (ps : List Entry) → IsStrictlySortedBy key_order ps → IsStrictlySortedBy value_order (keys ps)
unfolding IsStrictlySortedBy
keys_rise [] s = tt
keys_rise (p ∷ ps) s = (keys_above p ps s.0, keys_rise ps s.1)

pub domain_is : (ps : List Entry) → IsStrictlySortedBy key_order ps → set_value (keys ps) ≡ set_of (value_trees (keys ps))
domain_is ps s = set_rising (keys ps) (keys_rise ps s)

-- ---- a key is there where something is found at it

turned_test : (v w : ValueTree) → is_same v w ≡ is_same w v
turned_test v w = by (is_same v w) (is_same w v) refl refl
  where
    by : (r s : Bool) → is_same v w ≡ r → is_same w v ≡ s → r ≡ s
    by true true e f = refl
    by false false e f = refl
    by true false e f = absurd (true≢false (sym ((same_by-decides value_code w v).1 (sym ((same_by-decides value_code v w).0 e))) ∙ f))
    by false true e f = absurd (true≢false (sym ((same_by-decides value_code v w).1 (sym ((same_by-decides value_code w v).0 f))) ∙ e))

pub found_key : (ps : List Entry) (key : ValueTree) → is_some (found ps key) ≡ has (keys ps) key
found_key [] key = refl
found_key (p ∷ ps) key = by (is_same p.0 key) (is_same key p.0) (turned_test p.0 key) (found_key ps key)
  where
    by : (r s : Bool) → r ≡ s → is_some (found ps key) ≡ has (keys ps) key → is_some (if r then Some p.1 else found ps key) ≡ s || has (keys ps) key
    by true true e h = refl
    by false false e h = h
    by true false e h = absurd (true≢false e)
    by false true e h = absurd (true≢false (sym e))

-- ---- no key has two values in the pairs of one, and those of another that lack its keys

in_keys : (ps : List Entry) (p : Entry) → In ps p → In (keys ps) p.0
in_keys [] p i = absurd i
in_keys (q ∷ qs) p (inl e) = inl (ap (λ (r : Entry). r.0) e)
in_keys (q ∷ qs) p (inr i) = inr (in_keys qs p i)

module _ (ps qs : List Entry) (s : IsStrictlySortedBy key_order ps) (t : IsStrictlySortedBy key_order qs) where
  abbrev left : List Entry
  left = filter (λ (p : Entry). not (has (keys qs) p.0)) ps

  none_left : HasConflict left → ⊥
  none_left = no_conflict_by_key left (IsStrictlySortedBy-filter key_order (λ (p : Entry). not (has (keys qs) p.0)) ps s)

  clash : (k v : ValueTree) → In left (k, v) → (w : ValueTree) → In qs (k, w) → ⊥
  clash k v i w j = not_both (has (keys qs) k) (from_filter (λ (p : Entry). not (has (keys qs) p.0)) ps (k, v) i).1 (has_from_in (keys qs) k (in_keys qs (k, w) j))
    where
      not_both : (r : Bool) → not r ≡ true → r ≡ true → ⊥
      not_both true e h = true≢false (sym e)
      not_both false e h = true≢false (sym h)

  pub none_together : HasConflict (left ++ qs) → ⊥
  none_together h =
      elim (from_append left qs (h.key, h.value) (in_from_contains (left ++ qs) (h.key, h.value) h.first)) [
        | inl i ↦ elim (from_append left qs (h.key, h.other) (in_from_contains (left ++ qs) (h.key, h.other) h.second)) [
          | inl j ↦ none_left (record { key = h.key; value = h.value; other = h.other; first = contains_from_in left (h.key, h.value) i; second = contains_from_in left (h.key, h.other) j; differ = h.differ })
          | inr j ↦ clash h.key h.value i h.other j
        ]
        | inr i ↦ elim (from_append left qs (h.key, h.other) (in_from_contains (left ++ qs) (h.key, h.other) h.second)) [
          | inl j ↦ clash h.key h.other j h.value i
          | inr j ↦ no_conflict_by_key qs t (record { key = h.key; value = h.value; other = h.other; first = contains_from_in qs (h.key, h.value) i; second = contains_from_in qs (h.key, h.other) j; differ = h.differ })
        ]
      ]

  pub overridden_is : (us : List Entry) → us ≡ left ++ qs → joined us ≡ sized (overridden ps qs)
  overridden_is us e =
      ap joined e ∙ ap (λ r. if r then Err MapConflict else sized (map_value (left ++ qs))) ((conflict_decided (left ++ qs)).none none_together)
