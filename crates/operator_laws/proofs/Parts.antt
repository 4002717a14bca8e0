-- Members of lists of lists, of changed lists, and of results within the limits.
use Rattle.std.proofs.Common.{◌≡◌, ◌↔◌, ◌⊎◌, Bool, true, false, not, List, [], ◌∷◌, ◌++◌, map, refl, ap, sym, subst, inl, inr, Contains, Ok, Err, true≢false}
use Rattle.std.specs.Prelude.{IfOk, if◌then◌else◌}
use Rattle.std.specs.List.{filter, flat_map}
use Rattle.vdm_kinds.specs.declared.run_fault.RunFault.TheVariants.{SizeLimit}
use Rattle.abstract_syntax.specs.Values.{ValueTree}
use Rattle.abstract_syntax.proofs.RisingLaws.{In, in_from_contains, contains_from_in}
use Rattle.value_operators.specs.Outcomes.{sized, is_within_limits}
use Rattle.value_operators.specs.Members.{has}
use Rattle.value_operators.proofs.Lists.{has_decides, in_filter, from_filter, in_left, in_right, from_append}
use Rattle.operator_laws.specs.Shares.{HasSome}

if_within : (P : ValueTree → Type 0) (v : ValueTree) (r : Bool) → P v → IfOk (if r then Ok v else Err SizeLimit) P
if_within P v true h = h
if_within P v false h = tt

-- what holds of a value holds of the result that it is
pub if_sized : (P : ValueTree → Type 0) (v : ValueTree) → P v → IfOk (sized v) P
unfolding sized
if_sized P v h = if_within P v (is_within_limits v) h

not_true : (p : Bool) → not p ≡ true → p ≡ true → ⊥
not_true true e h = true≢false (sym e)
not_true false e h = true≢false (sym h)

not_false : (p : Bool) → (p ≡ true → ⊥) → not p ≡ true
not_false true f = absurd (f refl)
not_false false f = refl

module _ {X : Type 0} where
  from_flat : (lists : List (List X)) (x : X) → In (flat_map (λ xs. xs) lists) x → (xs : List X) × In lists xs × In xs x
  from_flat [] x i = absurd i
  from_flat (xs ∷ lists) x i = elim (from_append xs (flat_map (λ ys. ys) lists) x i) [
    | inl j ↦ (xs, inl refl, j)
    | inr j ↦ let found = from_flat lists x j in (found.0, inr found.1, found.2)
  ]

  in_flat : (lists : List (List X)) (x : X) (xs : List X) → In lists xs → In xs x → In (flat_map (λ ys. ys) lists) x
  in_flat [] x xs i j = absurd i
  in_flat (ys ∷ lists) x xs (inl e) j = in_left ys (flat_map (λ zs. zs) lists) x (subst (λ zs. In zs x) (sym e) j)
  in_flat (ys ∷ lists) x xs (inr i) j = in_right ys (flat_map (λ zs. zs) lists) x (in_flat lists x xs i j)

  -- the items of all lists, one after another
  pub flat_members : (lists : List (List X)) (x : X) → Contains (flat_map (λ xs. xs) lists) x ↔ HasSome lists x
  flat_members lists x = (
    λ c. let found = from_flat lists x (in_from_contains (flat_map (λ xs. xs) lists) x c) in
        record { list = found.0; one = contains_from_in lists found.0 found.1; has = contains_from_in found.0 x found.2 },
    λ h. contains_from_in (flat_map (λ xs. xs) lists) x (in_flat lists x h.list (in_from_contains lists h.list h.one) (in_from_contains h.list x h.has)),
  )

  pub append_members : (xs ys : List X) (x : X) → Contains (xs ++ ys) x ↔ Contains xs x ⊎ Contains ys x
  append_members xs ys x = (
    λ c. elim (from_append xs ys x (in_from_contains (xs ++ ys) x c)) [ inl i ↦ inl (contains_from_in xs x i) | inr i ↦ inr (contains_from_in ys x i) ],
    λ h. contains_from_in (xs ++ ys) x (elim h [ inl c ↦ in_left xs ys x (in_from_contains xs x c) | inr c ↦ in_right xs ys x (in_from_contains ys x c) ]),
  )

  -- the items of which one thing is among those, or is not
  pub kept_members : (f : X → ValueTree) (vs : List ValueTree) (xs : List X) (x : X) → Contains (filter (λ y. has vs (f y)) xs) x ↔ Contains xs x × Contains vs (f x)
  kept_members f vs xs x = (
    λ c. let h = from_filter (λ y. has vs (f y)) xs x (in_from_contains (filter (λ y. has vs (f y)) xs) x c) in
        (contains_from_in xs x h.0, (has_decides vs (f x)).0 h.1),
    λ h. contains_from_in (filter (λ y. has vs (f y)) xs) x (in_filter (λ y. has vs (f y)) xs x (in_from_contains xs x h.0) ((has_decides vs (f x)).1 h.1)),
  )

  pub removed_members : (f : X → ValueTree) (vs : List ValueTree) (xs : List X) (x : X) → Contains (filter (λ y. not (has vs (f y))) xs) x ↔ Contains xs x × (Contains vs (f x) → ⊥)
  removed_members f vs xs x = (
    λ c. let h = from_filter (λ y. not (has vs (f y))) xs x (in_from_contains (filter (λ y. not (has vs (f y))) xs) x c) in
        (contains_from_in xs x h.0, λ d. not_true (has vs (f x)) h.1 ((has_decides vs (f x)).1 d)),
    λ h. contains_from_in (filter (λ y. not (has vs (f y))) xs) x
        (in_filter (λ y. not (has vs (f y))) xs x (in_from_contains xs x h.0) (not_false (has vs (f x)) (λ t. h.1 ((has_decides vs (f x)).0 t)))),
  )

module _ {X Y : Type 0} (f : X → Y) where
  pub from_map : (xs : List X) (y : Y) → In (map f xs) y → (x : X) × In xs x × (f x ≡ y)
  from_map [] y i = absurd i
  from_map (x ∷ xs) y (inl e) = (x, inl refl, e)
  from_map (x ∷ xs) y (inr i) = let found = from_map xs y i in (found.0, inr found.1, found.2)

  pub in_map : (xs : List X) (x : X) → In xs x → In (map f xs) (f x)
  in_map [] x i = absurd i
  in_map (z ∷ zs) x (inl e) = inl (ap f e)
  in_map (z ∷ zs) x (inr i) = inr (in_map zs x i)
