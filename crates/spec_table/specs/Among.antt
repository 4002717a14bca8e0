-- What stands in a list, and what is the only one there that passes a test.
use Rattle.std.proofs.Common.{◌≡◌, ℕ, zero, suc, ◌<◌, Bool, true, false, ◌⊎◌, inl, inr, ⊎_elim, List, [], ◌∷◌, ◌++◌, Some, None, length, map, slice_get, nat_lt, cond, refl, ap, sym, subst, ◌∙◌, arith}
use Rattle.std.specs.List.{AllByRecursion, IsDistinct, find, flat_map, position, position_or_len}
use Rattle.std.proofs.lemmas.Bool.Decides.{nat_tests}
use Rattle.std.proofs.lemmas.List.Folds.{find_at}
use Rattle.std.proofs.lemmas.Map.Keys.{IsDistinct-head, IsDistinct-tail}
use Rattle.std.proofs.lemmas.Option.{slice_get_within}
use Rattle.class_meaning.proofs.Numbers.{not_both}

abbrev pub Among : {A : Type 0} → A → List A → Type 0
Among a [] = ⊥
Among a (x ∷ xs) = (x ≡ a) ⊎ Among a xs

module _ {A : Type 0} where
  pub among_before : (a : A) (xs ys : List A) → Among a xs → Among a (xs ++ ys)
  among_before a [] ys h = absurd h
  among_before a (x ∷ xs) ys h = ⊎_elim (λ (e : x ≡ a). inl e) (λ (l : Among a xs). inr (among_before a xs ys l)) h

  pub among_behind : (a : A) (xs ys : List A) → Among a ys → Among a (xs ++ ys)
  among_behind a [] ys h = h
  among_behind a (x ∷ xs) ys h = inr (among_behind a xs ys h)

  pub among_either : (a : A) (xs ys : List A) → Among a (xs ++ ys) → Among a xs ⊎ Among a ys
  among_either a [] ys h = inr h
  among_either a (x ∷ xs) ys h = ⊎_elim
      (λ (e : x ≡ a). inl (inl e))
      (λ (l : Among a (xs ++ ys)). ⊎_elim (λ (m : Among a xs). inl (inr m)) (λ (m : Among a ys). inr m) (among_either a xs ys l))
      h

  pub each_among : (P : A → Type 0) (xs : List A) (a : A) → AllByRecursion P xs → Among a xs → P a
  each_among P [] a all h = absurd h
  each_among P (x ∷ xs) a all h = ⊎_elim (λ (e : x ≡ a). subst P e all.0) (λ (l : Among a xs). each_among P xs a all.1 l) h

  pub find_some : (p : A → Bool) (xs : List A) (a : A) → find p xs ≡ Some a → Among a xs × (p a ≡ true)
  find_some p [] a e = absurd (cc)
  find_some p (x ∷ xs) a e = by (p x) refl e (find_some p xs a)
    where
      by : (b : Bool) → p x ≡ b → cond b (Some x) (find p xs) ≡ Some a → (find p xs ≡ Some a → Among a xs × (p a ≡ true)) → ((x ≡ a) ⊎ Among a xs) × (p a ≡ true)
      by true e f rest = let same : x ≡ a = cc in (inl same, subst (λ (y : A). p y ≡ true) same e)
      by false e f rest = let r = rest f in (inr r.0, r.1)

  pub some_found : (p : A → Bool) (xs : List A) (a : A) → Among a xs → p a ≡ true → (x : A) × (find p xs ≡ Some x)
  some_found p [] a h t = absurd h
  some_found p (x ∷ xs) a h t = by (p x) refl (some_found p xs a)
    where
      by : (b : Bool) → p x ≡ b → (Among a xs → p a ≡ true → (y : A) × (find p xs ≡ Some y)) → (y : A) × (cond b (Some x) (find p xs) ≡ Some y)
      by true e rest = (x, refl)
      by false e rest = ⊎_elim (λ (same : x ≡ a). not_both t (subst (λ (y : A). p y ≡ false) same e)) (λ (l : Among a xs). rest l t) h

  -- the only one that passes is found
  pub only_found : (p : A → Bool) (xs : List A) (a : A) → ((x : A) → Among x xs → p x ≡ true → x ≡ a) → Among a xs → p a ≡ true → find p xs ≡ Some a
  only_found p xs a only h t =
      let r = some_found p xs a h t in
      let s = find_some p xs r.0 r.1 in
      r.1 ∙ ap Some (only r.0 s.0 s.1)

  -- where it is found
  pub place_found : (p : A → Bool) (xs : List A) (a : A) → find p xs ≡ Some a → (i : ℕ) × (position p xs ≡ Some i) × (slice_get xs i ≡ Some a)
  place_found p xs a e =
      let i = position_or_len p xs in
      let at : slice_get xs i ≡ Some a = sym (find_at p xs) ∙ e in
      let within : i < length xs = slice_get_within xs i a at in
      let passes : nat_lt i (length xs) ≡ true = grind (arith, nat_tests, within) in
      (i, ap (λ (b : Bool). cond b (Some i) None) passes, at)

  pub among_at : (xs : List A) (i : ℕ) (a : A) → slice_get xs i ≡ Some a → Among a xs
  among_at [] i a e = absurd (cc)
  among_at (x ∷ xs) zero a e = let same : x ≡ a = cc in inl same
  among_at (x ∷ xs) (suc i) a e = inr (among_at xs i a e)

  -- of elements that all differ two that don't are one
  pub differ_or_same : (same : A → A → Bool) (xs : List A) → IsDistinct same xs → (x a : A) → Among x xs → Among a xs → same x a ≡ true → same a x ≡ true → x ≡ a
  differ_or_same same [] apart x a h k s t = absurd h
  differ_or_same same (y ∷ ys) apart x a h k s t = ⊎_elim
      (λ (e : y ≡ x). ⊎_elim
      (λ (f : y ≡ a). sym e ∙ f)
      (λ (l : Among a ys). not_both s (subst (λ (z : A). same z a ≡ false) e (each_among (λ (z : A). same y z ≡ false) ys a (IsDistinct-head same y ys apart) l)))
      k)
      (λ (m : Among x ys). ⊎_elim
      (λ (f : y ≡ a). not_both t (subst (λ (z : A). same z x ≡ false) f (each_among (λ (z : A). same y z ≡ false) ys x (IsDistinct-head same y ys apart) m)))
      (λ (l : Among a ys). differ_or_same same ys (IsDistinct-tail same y ys apart) x a m l s t)
      k)
      h

module _ {A B : Type 0} where
  pub among_map : (f : A → B) (a : A) (xs : List A) → Among a xs → Among (f a) (map f xs)
  among_map f a [] h = absurd h
  among_map f a (x ∷ xs) h = ⊎_elim (λ (e : x ≡ a). inl (ap f e)) (λ (l : Among a xs). inr (among_map f a xs l)) h

  pub among_mapped : (f : A → B) (b : B) (xs : List A) → Among b (map f xs) → (a : A) × Among a xs × (f a ≡ b)
  among_mapped f b [] h = absurd h
  among_mapped f b (x ∷ xs) h = ⊎_elim
      (λ (e : f x ≡ b). (x, inl refl, e))
      (λ (l : Among b (map f xs)). let r = among_mapped f b xs l in (r.0, inr r.1, r.2))
      h

  pub among_flat : (f : A → List B) (a : A) (b : B) (xs : List A) → Among a xs → Among b (f a) → Among b (flat_map f xs)
  among_flat f a b [] h k = absurd h
  among_flat f a b (x ∷ xs) h k = ⊎_elim
      (λ (e : x ≡ a). among_before b (f x) (flat_map f xs) (subst (λ (y : A). Among b (f y)) (sym e) k))
      (λ (l : Among a xs). among_behind b (f x) (flat_map f xs) (among_flat f a b xs l k))
      h

  pub among_part : (f : A → List B) (b : B) (xs : List A) → Among b (flat_map f xs) → (a : A) × Among a xs × Among b (f a)
  among_part f b [] h = absurd h
  among_part f b (x ∷ xs) h = ⊎_elim
      (λ (l : Among b (f x)). (x, inl refl, l))
      (λ (l : Among b (flat_map f xs)). let r = among_part f b xs l in (r.0, inr r.1, r.2))
      (among_either b (f x) (flat_map f xs) h)

  -- the same of what a function gives
  pub differ_or_same_by : (f : A → B) (same : B → B → Bool) (xs : List A) → IsDistinct same (map f xs) → (x a : A) → Among x xs → Among a xs
      → same (f x) (f a) ≡ true → same (f a) (f x) ≡ true → x ≡ a
  differ_or_same_by f same [] apart x a h k s t = absurd h
  differ_or_same_by f same (y ∷ ys) apart x a h k s t = ⊎_elim
      (λ (e : y ≡ x). ⊎_elim
      (λ (g : y ≡ a). sym e ∙ g)
      (λ (l : Among a ys). not_both s (subst (λ (z : A). same (f z) (f a) ≡ false) e
      (each_among (λ (z : B). same (f y) z ≡ false) (map f ys) (f a) (IsDistinct-head same (f y) (map f ys) apart) (among_map f a ys l))))
      k)
      (λ (m : Among x ys). ⊎_elim
      (λ (g : y ≡ a). not_both t (subst (λ (z : A). same (f z) (f x) ≡ false) g
      (each_among (λ (z : B). same (f y) z ≡ false) (map f ys) (f x) (IsDistinct-head same (f y) (map f ys) apart) (among_map f x ys m))))
      (λ (l : Among a ys). differ_or_same_by f same ys (IsDistinct-tail same (f y) (map f ys) apart) x a m l s t)
      k)
      h
