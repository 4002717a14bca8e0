-- What holds of each item of a list holds of each of what is made of its items.
use Rattle.std.proofs.Common.{ℕ, zero, suc, Bool, true, false, cond, List, [], ◌∷◌, ◌++◌, map, take, drop, flat_map, filter, filter_map, slice_get, Option, Some, None, IfSome}
use Rattle.std.specs.List.{AllByRecursion as Each, cons_option}
use Rattle.std.specs.declared.cmp.Ordering.{Ordering}
use Rattle.std.specs.declared.cmp.Ordering.TheVariants.{Less, Equal, Greater}
use Rattle.std.specs.Ordering.{match_ordering}
use Rattle.abstract_syntax.specs.Rising.{insert_rising, rising}

module _ {X : Type 0} (P : X → Type 0) where
  pub each_append : (xs ys : List X) → Each P xs → Each P ys → Each P (xs ++ ys)
  each_append [] ys h k = k
  each_append (x ∷ xs) ys h k = (h.0, each_append xs ys h.1 k)

  pub each_filter : (p : X → Bool) (xs : List X) → Each P xs → Each P (filter p xs)
  each_filter p [] h = tt
  each_filter p (x ∷ xs) h = by (p x) (each_filter p xs h.1)
    where
      by : (r : Bool) → Each P (filter p xs) → Each P (cond r (x ∷ filter p xs) (filter p xs))
      by true k = (h.0, k)
      by false k = k

  pub each_take : (n : ℕ) (xs : List X) → Each P xs → Each P (take n xs)
  each_take zero xs h = tt
  each_take (suc n) [] h = tt
  each_take (suc n) (x ∷ xs) h = (h.0, each_take n xs h.1)

  pub each_drop : (n : ℕ) (xs : List X) → Each P xs → Each P (drop n xs)
  each_drop zero xs h = h
  each_drop (suc n) [] h = tt
  each_drop (suc n) (x ∷ xs) h = each_drop n xs h.1

  pub each_at : (xs : List X) (k : ℕ) → Each P xs → IfSome (slice_get xs k) P
  each_at [] k h = tt
  each_at (x ∷ xs) zero h = h.0
  each_at (x ∷ xs) (suc k) h = each_at xs k h.1

  -- ---- items put in their places

  inserted_by : (x y : X) (ys zs : List X) → P x → Each P (y ∷ ys) → Each P zs → (r : Ordering) → Each P (match_ordering r (x ∷ y ∷ ys) (y ∷ ys) (y ∷ zs))
  inserted_by x y ys zs h k l Less = (h, k)
  inserted_by x y ys zs h k l Equal = k
  inserted_by x y ys zs h k l Greater = (k.0, l)

  each_inserted : (cmp : X → X → Ordering) (x : X) (ys : List X) → P x → Each P ys → Each P (insert_rising cmp x ys)
  each_inserted cmp x [] h k = (h, tt)
  each_inserted cmp x (y ∷ ys) h k = inserted_by x y ys (insert_rising cmp x ys) h k (each_inserted cmp x ys h k.1) (cmp x y)

  pub each_rising : (cmp : X → X → Ordering) (xs : List X) → Each P xs → Each P (rising cmp xs)
  each_rising cmp [] h = tt
  each_rising cmp (x ∷ xs) h = each_inserted cmp x (rising cmp xs) h.0 (each_rising cmp xs h.1)

-- ---- of other items

module _ {X Y : Type 0} (P : X → Type 0) (Q : Y → Type 0) where
  pub each_map : (f : X → Y) → ((x : X) → P x → Q (f x)) → (xs : List X) → Each P xs → Each Q (map f xs)
  each_map f k [] h = tt
  each_map f k (x ∷ xs) h = (k x h.0, each_map f k xs h.1)

  pub each_flat_map : (f : X → List Y) → ((x : X) → P x → Each Q (f x)) → (xs : List X) → Each P xs → Each Q (flat_map f xs)
  each_flat_map f k [] h = tt
  each_flat_map f k (x ∷ xs) h = each_append Q (f x) (flat_map f xs) (k x h.0) (each_flat_map f k xs h.1)

  kept_by : (o : Option Y) (ys : List Y) → IfSome o Q → Each Q ys → Each Q (cons_option o ys)
  kept_by None ys h k = k
  kept_by (Some y) ys h k = (h, k)

  pub each_filter_map : (f : X → Option Y) → ((x : X) → P x → IfSome (f x) Q) → (xs : List X) → Each P xs → Each Q (filter_map f xs)
  each_filter_map f k [] h = tt
  each_filter_map f k (x ∷ xs) h = kept_by (f x) (filter_map f xs) (k x h.0) (each_filter_map f k xs h.1)

-- the items of all lists, one after another
pub each_flat : {X : Type 0} (P : X → Type 0) (lists : List (List X)) → Each (Each P) lists → Each P (flat_map (λ xs. xs) lists)
each_flat P = each_flat_map (Each P) P (λ xs. xs) (λ xs h. h)
