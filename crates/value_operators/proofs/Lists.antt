-- Members of lists, by recursion, and lists that rise.
use Rattle.std.proofs.Common.{◌≡◌, ◌↔◌, ◌⊎◌, Bool, true, false, not, cond, ◌||◌, ◌&&◌, List, [], ◌∷◌, ◌++◌, refl, ap, sym, ◌∙◌, subst, inl, inr, IsTrue, Contains, true≢false}
use Rattle.std.specs.declared.cmp.Ordering.{Ordering}
use Rattle.std.specs.declared.cmp.Ordering.TheVariants.{Less, Equal}
use Rattle.std.specs.Ordering.{ordering_then}
use Rattle.std.specs.Cmp.{IsTotalOrder}
use Rattle.std.specs.List.{filter, list_all}
use Rattle.std.specs.List.Sorted.{IsStrictlySortedBy}
use Rattle.std.proofs.lemmas.List.Kept.{IsStrictlySortedBy-filter}
use Rattle.abstract_syntax.specs.Values.{ValueTree, set_of, map_of, value_trees, pair_trees, value_list-value_trees}
use Rattle.abstract_syntax.specs.ValueOrder.{value_order}
use Rattle.abstract_syntax.specs.ValueOrderTotal.{value_order_total, same_from_order}
use Rattle.abstract_syntax.specs.ValueCode.{value_code}
use Rattle.abstract_syntax.specs.SameBy.{same_by-decides}
use Rattle.abstract_syntax.specs.Rising.{rising}
use Rattle.abstract_syntax.specs.ValueSets.{Entry, set_value, map_value, pair_order, key_order}
use Rattle.abstract_syntax.proofs.RisingLaws.{In, in_from_contains, contains_from_in, all_at, all_from, rising_is, rising_rises, rising_keeps}
use Rattle.abstract_syntax.proofs.MapLaws.{pair_order_total, pair_same}
use Rattle.value_operators.specs.Numbers.{is_same}
use Rattle.value_operators.specs.Members.{has}
use Rattle.value_operators.specs.Sets.{members_of, union, inter, difference, is_subset}

-- ---- the test of a member

pub in_from_has : (vs : List ValueTree) (v : ValueTree) → has vs v ≡ true → In vs v
in_from_has [] v e = absurd (true≢false (sym e))
in_from_has (w ∷ ws) v e = by (in_from_has ws v) (is_same v w) refl e
  where
    by : (has ws v ≡ true → In ws v) → (r : Bool) → is_same v w ≡ r → r || has ws v ≡ true → In (w ∷ ws) v
    by f true s h = inl (sym ((same_by-decides value_code v w).0 s))
    by f false s h = inr (f h)

pub has_from_in : (vs : List ValueTree) (v : ValueTree) → In vs v → has vs v ≡ true
has_from_in [] v i = absurd i
has_from_in (w ∷ ws) v (inl e) = ap (λ r. r || has ws v) ((same_by-decides value_code v w).1 (sym e))
has_from_in (w ∷ ws) v (inr i) = by (is_same v w) (has_from_in ws v i)
  where
    by : (r : Bool) → has ws v ≡ true → r || has ws v ≡ true
    by true h = refl
    by false h = h

pub has_decides : (vs : List ValueTree) (v : ValueTree) → IsTrue (has vs v) ↔ Contains vs v
has_decides vs v = (λ h. contains_from_in vs v (in_from_has vs v h), λ c. has_from_in vs v (in_from_contains vs v c))

-- ---- members of a part

module _ {X : Type 0} where
  pub in_filter : (p : X → Bool) (xs : List X) (x : X) → In xs x → p x ≡ true → In (filter p xs) x
  in_filter p [] x i e = i
  in_filter p (y ∷ ys) x (inl s) e = subst (λ r. In (cond r (y ∷ filter p ys) (filter p ys)) x) (sym (ap p s ∙ e)) (inl s)
  in_filter p (y ∷ ys) x (inr i) e = by (p y) (in_filter p ys x i e)
    where
      by : (r : Bool) → In (filter p ys) x → In (cond r (y ∷ filter p ys) (filter p ys)) x
      by true j = inr j
      by false j = j

  pub from_filter : (p : X → Bool) (xs : List X) (x : X) → In (filter p xs) x → In xs x × (p x ≡ true)
  from_filter p [] x i = absurd i
  from_filter p (y ∷ ys) x i = by (from_filter p ys x) (p y) refl i
    where
      by : (In (filter p ys) x → In ys x × (p x ≡ true)) → (r : Bool) → p y ≡ r → In (cond r (y ∷ filter p ys) (filter p ys)) x → In (y ∷ ys) x × (p x ≡ true)
      by f true e (inl s) = (inl s, ap p (sym s) ∙ e)
      by f true e (inr j) = (inr (f j).0, (f j).1)
      by f false e j = (inr (f j).0, (f j).1)

  pub in_left : (xs ys : List X) (x : X) → In xs x → In (xs ++ ys) x
  in_left [] ys x i = absurd i
  in_left (z ∷ zs) ys x (inl e) = inl e
  in_left (z ∷ zs) ys x (inr i) = inr (in_left zs ys x i)

  pub in_right : (xs ys : List X) (x : X) → In ys x → In (xs ++ ys) x
  in_right [] ys x i = i
  in_right (z ∷ zs) ys x i = inr (in_right zs ys x i)

  pub from_append : (xs ys : List X) (x : X) → In (xs ++ ys) x → In xs x ⊎ In ys x
  from_append [] ys x i = inr i
  from_append (z ∷ zs) ys x (inl e) = inl (inl e)
  from_append (z ∷ zs) ys x (inr i) = elim (from_append zs ys x i) [ inl j ↦ inl (inr j) | inr j ↦ inr j ]

  pub all_in : (p : X → Bool) (xs : List X) (x : X) → list_all p xs ≡ true → In xs x → p x ≡ true
  all_in p [] x e i = absurd i
  all_in p (y ∷ ys) x e i = by (all_in p ys x) (p y) refl e i
    where
      by : (list_all p ys ≡ true → In ys x → p x ≡ true) → (r : Bool) → p y ≡ r → r && list_all p ys ≡ true → In (y ∷ ys) x → p x ≡ true
      by f true s h (inl same) = ap p (sym same) ∙ s
      by f true s h (inr j) = f h j
      by f false s h j = absurd (true≢false (sym h))

  pub all_by_in : (p : X → Bool) (xs : List X) → ((x : X) → In xs x → p x ≡ true) → list_all p xs ≡ true
  all_by_in p [] f = refl
  all_by_in p (y ∷ ys) f = subst (λ r. r && list_all p ys ≡ true) (sym (f y (inl refl))) (all_by_in p ys (λ x i. f x (inr i)))

-- ---- lists that rise already

module _ {X : Type 0} {cmp : X → X → Ordering} (o : IsTotalOrder cmp) (same : (x y : X) → cmp x y ≡ Equal → x ≡ y) where
  pub rising_itself : (xs : List X) → IsStrictlySortedBy cmp xs → rising cmp xs ≡ xs
  rising_itself xs s = sym (rising_is o same xs xs s (λ x c. c) (λ x c. c))

  -- lists with the same items give the same list
  pub rising_level : (xs ys : List X) → ((x : X) → In xs x → In ys x) → ((x : X) → In ys x → In xs x) → rising cmp xs ≡ rising cmp ys
  rising_level xs ys f g =
      rising_is o same ys (rising cmp xs) (rising_rises o same xs)
      (λ x c. contains_from_in ys x (f x (in_from_contains xs x ((rising_keeps o same xs x).0 c))))
      (λ x c. (rising_keeps o same xs x).1 (contains_from_in xs x (g x (in_from_contains ys x c))))

pub set_rising : (vs : List ValueTree) → IsStrictlySortedBy value_order vs → set_value vs ≡ set_of (value_trees vs)
set_rising vs s = ap (λ ws. set_of (value_trees ws)) (rising_itself value_order_total same_from_order vs s)

pub set_filtered : (p : ValueTree → Bool) (vs : List ValueTree) → IsStrictlySortedBy value_order vs → set_value (filter p vs) ≡ set_of (value_trees (filter p vs))
set_filtered p vs s = set_rising (filter p vs) (IsStrictlySortedBy-filter value_order p vs s)

pub set_level : (vs ws : List ValueTree) → ((v : ValueTree) → In vs v → In ws v) → ((v : ValueTree) → In ws v → In vs v) → set_value vs ≡ set_value ws
set_level vs ws f g = ap (λ us. set_of (value_trees us)) (rising_level value_order_total same_from_order vs ws f g)

-- ---- pairs that rise by their keys

pub pairs_rise : (ps : List Entry) → IsStrictlySortedBy key_order ps → IsStrictlySortedBy pair_order ps
unfolding IsStrictlySortedBy
pairs_rise [] s = tt
pairs_rise (p ∷ ps) s = (
  all_from (λ q. pair_order p q ≡ Less) ps (λ q i. ap (λ r. ordering_then r (value_order p.1 q.1)) (all_at (λ w. key_order p w ≡ Less) ps q s.0 i)),
  pairs_rise ps s.1,
)

pub map_rising : (ps : List Entry) → IsStrictlySortedBy key_order ps → map_value ps ≡ map_of (pair_trees ps)
map_rising ps s = ap (λ qs. map_of (pair_trees qs)) (rising_itself pair_order_total pair_same ps (pairs_rise ps s))

pub map_filtered : (p : Entry → Bool) (ps : List Entry) → IsStrictlySortedBy key_order ps → map_value (filter p ps) ≡ map_of (pair_trees (filter p ps))
map_filtered p ps s = map_rising (filter p ps) (IsStrictlySortedBy-filter key_order p ps s)

-- ---- the members of sets

pub set_members : (xs : List ValueTree) (v : ValueTree) → Contains (members_of (set_value xs)) v ↔ Contains xs v
set_members xs v =
    let e : members_of (set_value xs) ≡ rising value_order xs = value_list-value_trees (rising value_order xs) in
    let kept = rising_keeps value_order_total same_from_order xs v in
    (λ c. kept.0 (subst (λ ys. Contains ys v) e c), λ c. subst (λ ys. Contains ys v) (sym e) (kept.1 c))

pub union_members : (vs ws : List ValueTree) (v : ValueTree) → Contains (members_of (union vs ws)) v ↔ Contains vs v ⊎ Contains ws v
union_members vs ws v = (
  λ c. elim (from_append vs ws v (in_from_contains (vs ++ ws) v ((set_members (vs ++ ws) v).0 c))) [ inl i ↦ inl (contains_from_in vs v i) | inr i ↦ inr (contains_from_in ws v i) ],
  λ h. (set_members (vs ++ ws) v).1 (contains_from_in (vs ++ ws) v (elim h [ inl c ↦ in_left vs ws v (in_from_contains vs v c) | inr c ↦ in_right vs ws v (in_from_contains ws v c) ])),
)

pub inter_members : (vs ws : List ValueTree) (v : ValueTree) → Contains (members_of (inter vs ws)) v ↔ Contains vs v × Contains ws v
inter_members vs ws v = (
  λ c. let h = from_filter (has ws) vs v (in_from_contains (filter (has ws) vs) v ((set_members (filter (has ws) vs) v).0 c)) in
      (contains_from_in vs v h.0, (has_decides ws v).0 h.1),
  λ h. (set_members (filter (has ws) vs) v).1 (contains_from_in (filter (has ws) vs) v (in_filter (has ws) vs v (in_from_contains vs v h.0) ((has_decides ws v).1 h.1))),
)

not_true : (p : Bool) → not p ≡ true → p ≡ true → ⊥
not_true true e h = true≢false (sym e)
not_true false e h = true≢false (sym h)

not_false : (p : Bool) → (p ≡ true → ⊥) → not p ≡ true
not_false true f = absurd (f refl)
not_false false f = refl

pub difference_members : (vs ws : List ValueTree) (v : ValueTree) → Contains (members_of (difference vs ws)) v ↔ Contains vs v × (Contains ws v → ⊥)
difference_members vs ws v = (
  λ c. let h = from_filter (λ w. not (has ws w)) vs v (in_from_contains (filter (λ w. not (has ws w)) vs) v ((set_members (filter (λ w. not (has ws w)) vs) v).0 c)) in
      (contains_from_in vs v h.0, λ d. not_true (has ws v) h.1 ((has_decides ws v).1 d)),
  λ h. (set_members (filter (λ w. not (has ws w)) vs) v).1 (contains_from_in (filter (λ w. not (has ws w)) vs) v
      (in_filter (λ w. not (has ws w)) vs v (in_from_contains vs v h.0) (not_false (has ws v) (λ t. h.1 ((has_decides ws v).0 t))))),
)

pub subset_members : (vs ws : List ValueTree) → IsTrue (is_subset vs ws) ↔ ((v : ValueTree) → Contains vs v → Contains ws v)
subset_members vs ws = (
  λ t v c. (has_decides ws v).0 (all_in (has ws) vs v t (in_from_contains vs v c)),
  λ f. all_by_in (has ws) vs (λ v i. (has_decides ws v).1 (f v (contains_from_in vs v i))),
)
