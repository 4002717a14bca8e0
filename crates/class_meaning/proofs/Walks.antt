-- Ancestors in a graph: what more levels change, and what stands there.
use Rattle.std.proofs.Common.{◌≡◌, ℕ, zero, suc, ◌<◌, ◌≤◌, Bool, true, false, ◌||◌, ◌⊎◌, inl, inr, ⊎_elim, List, ◌∷◌, length, nat_eq, eqb-true, refl, ap, sym, subst, ◌∙◌, arith}
use Rattle.std.specs.List.{list_any, list_all, flat_map, IsDistinct}
use Rattle.std.proofs.lemmas.Bool.{cases_Bool}
use Rattle.std.proofs.lemmas.Cmp.{nat_eq_equiv}
use Rattle.std.proofs.lemmas.Map.Keys.{IsDistinct-cons}
use Rattle.std.proofs.lemmas.Map.Made.{length-le_from_is_member}
use Rattle.graph_cycles.specs.Graphs.{Graph, successors, leads, settles}
use Rattle.class_meaning.specs.Ancestors.{walk, firsts, ancestors_in}
use Rattle.class_meaning.proofs.Numbers.{not_both, or_left, or_right, or_cases, itself, flipped, some_in, any_from, all_from, each_of, any_agree, any_never, any_flat_map, flat_map_same, apart_from}
use Rattle.class_meaning.proofs.Firsts.{firsts_in, firsts_flat_map, firsts_apart, other_than}

module _ (g : Graph) where
  -- ---- more levels

  pub more_settles : (n m a : ℕ) → n ≤ m → settles n g a ≡ true → settles m g a ≡ true
  more_settles zero m a l t = not_both t refl
  more_settles (suc n) zero a l t = absurd (omega arith)
  more_settles (suc n) (suc m) a l t =
      all_from (settles m g) (successors g a) (λ b is. more_settles n m b (omega arith) (each_of (settles n g) (successors g a) b t is))

  pub successor_settles : (n a b : ℕ) → settles (suc n) g a ≡ true → list_any (nat_eq b) (successors g a) ≡ true → settles n g b ≡ true
  successor_settles n a b t is = each_of (settles n g) (successors g a) b t is

  -- at the bound itself
  pub superior_settles : (n a b : ℕ) → settles n g a ≡ true → list_any (nat_eq b) (successors g a) ≡ true → settles n g b ≡ true
  superior_settles n a b t is = successor_settles n a b (more_settles n (suc n) a (omega arith) t) is

  pub more_walk : (n m a : ℕ) → n ≤ m → settles n g a ≡ true → walk m g a ≡ walk n g a
  more_walk zero m a l t = not_both t refl
  more_walk (suc n) zero a l t = absurd (omega arith)
  more_walk (suc n) (suc m) a l t =
      ap (λ (xs : List ℕ). a ∷ xs)
      (flat_map_same (walk m g) (walk n g) (successors g a) (λ b is. more_walk n m b (omega arith) (each_of (settles n g) (successors g a) b t is)))

  -- ---- where steps lead

  pub first_step : (n a b : ℕ) → leads (suc n) g a b ≡ true
      → (c : ℕ) × (list_any (nat_eq c) (successors g a) ≡ true) × ((c ≡ b) ⊎ (leads n g c b ≡ true))
  first_step n a b t =
      let r = some_in (λ (next : ℕ). nat_eq next b || leads n g next b) (successors g a) t in
      (r.0, r.1, ⊎_elim (λ here. inl (eqb-true r.0 b here)) (λ later. inr later) (or_cases (nat_eq r.0 b) (leads n g r.0 b) r.2))

  pub leads_before : (n a b c : ℕ) → list_any (nat_eq b) (successors g a) ≡ true → (nat_eq b c || leads n g b c) ≡ true → leads (suc n) g a c ≡ true
  leads_before n a b c is t =
      any_from (λ (next : ℕ). nat_eq next c || leads n g next c) (successors g a) b is t

  -- what a node that settles leads to settles sooner
  settles_sooner : (m n a b : ℕ) → settles (suc n) g a ≡ true → leads m g a b ≡ true → settles n g b ≡ true
  settles_sooner zero n a b s t = not_both t refl
  settles_sooner (suc m) zero a b s t =
      let r = first_step m a b t in
      not_both (each_of (settles zero g) (successors g a) r.0 s r.1) refl
  settles_sooner (suc m) (suc n) a b s t =
      let r = first_step m a b t in
      let first : settles (suc n) g r.0 ≡ true = each_of (settles (suc n) g) (successors g a) r.0 s r.1 in
      ⊎_elim
      (λ (here : r.0 ≡ b). subst (λ (x : ℕ). settles (suc n) g x ≡ true) here first)
      (λ (later : leads m g r.0 b ≡ true). more_settles n (suc n) b (omega arith) (settles_sooner m n r.0 b first later))
      r.2

  -- a node that settles is on no circle
  pub settled_no_circle : (n m a : ℕ) → settles n g a ≡ true → leads m g a a ≡ false
  settled_no_circle zero m a s = not_both s refl
  settled_no_circle (suc n) m a s = ⊎_elim
      (λ t. not_both t (settled_no_circle n m a (settles_sooner m n a a s t)))
      (λ f. f)
      (cases_Bool (leads m g a a))

  -- ---- what stands among the ancestors

  -- so many levels reach what one step less leads to
  pub walk_in : (n a b : ℕ) → list_any (nat_eq b) (walk (suc n) g a) ≡ (nat_eq a b || leads n g a b)
  walk_in zero a b =
      ap (λ (t : Bool). t || list_any (nat_eq b) (flat_map (walk zero g) (successors g a))) (flipped b a)
      ∙ ap (λ (t : Bool). nat_eq a b || t) (any_flat_map (nat_eq b) (walk zero g) (successors g a) ∙ any_never (successors g a))
  walk_in (suc n) a b =
      ap (λ (t : Bool). t || list_any (nat_eq b) (flat_map (walk (suc n) g) (successors g a))) (flipped b a)
      ∙ ap (λ (t : Bool). nat_eq a b || t)
      (any_flat_map (nat_eq b) (walk (suc n) g) (successors g a)
      ∙ any_agree (λ (next : ℕ). list_any (nat_eq b) (walk (suc n) g next)) (λ (next : ℕ). nat_eq next b || leads n g next b) (successors g a)
      (λ next. walk_in n next b))

  pub ancestors_has : (a b : ℕ) → list_any (nat_eq b) (ancestors_in g a) ≡ (nat_eq a b || leads (length g) g a b)
  ancestors_has a b = firsts_in (walk (suc (length g)) g a) b ∙ walk_in (length g) a b

  pub ancestors_has_itself : (a : ℕ) → list_any (nat_eq a) (ancestors_in g a) ≡ true
  ancestors_has_itself a = ancestors_has a a ∙ or_left (nat_eq a a) (leads (length g) g a a) (itself a)

  -- none twice
  pub ancestors_apart : (a : ℕ) → IsDistinct nat_eq (ancestors_in g a)
  ancestors_apart a = firsts_apart (walk (suc (length g)) g a)

  -- the ancestors by those of the successors
  pub ancestors_equation : (a : ℕ) → settles (length g) g a ≡ true → ancestors_in g a ≡ firsts (a ∷ flat_map (ancestors_in g) (successors g a))
  ancestors_equation a s =
      ap (λ (xs : List ℕ). firsts (a ∷ xs))
      (flat_map_same (walk (length g) g) (walk (suc (length g)) g) (successors g a)
      (λ b is. sym (more_walk (length g) (suc (length g)) b (omega arith) (superior_settles (length g) a b s is))))
      ∙ ap (λ (xs : List ℕ). a ∷ Rattle.std.specs.List.filter (other_than a) xs) (sym (firsts_flat_map (walk (suc (length g)) g) (successors g a)))

  -- a node that settles isn't among the ancestors of what it leads to
  pub not_above : (a b : ℕ) → settles (length g) g a ≡ true → list_any (nat_eq b) (successors g a) ≡ true
      → list_any (nat_eq a) (ancestors_in g b) ≡ false
  not_above a b s is = ⊎_elim
      (λ (t : list_any (nat_eq a) (ancestors_in g b) ≡ true).
      not_both (leads_before (length g) a b a is (sym (ancestors_has b a) ∙ t)) (settled_no_circle (length g) (suc (length g)) a s))
      (λ f. f)
      (cases_Bool (list_any (nat_eq a) (ancestors_in g b)))

  -- what the ancestors of a successor are, the node's are too, and one more: itself
  pub more_above : (a b c : ℕ) → settles (length g) g a ≡ true → list_any (nat_eq b) (successors g a) ≡ true
      → list_any (nat_eq c) (ancestors_in g b) ≡ true → list_any (nat_eq c) (ancestors_in g a) ≡ true
  more_above a b c s is t =
      ap (λ (xs : List ℕ). list_any (nat_eq c) xs) (ancestors_equation a s)
      ∙ firsts_in (a ∷ flat_map (ancestors_in g) (successors g a)) c
      ∙ or_right (nat_eq c a) (list_any (nat_eq c) (flat_map (ancestors_in g) (successors g a)))
      (any_flat_map (nat_eq c) (ancestors_in g) (successors g a)
      ∙ any_from (λ (x : ℕ). list_any (nat_eq c) (ancestors_in g x)) (successors g a) b is t)

  -- so there are fewer
  pub fewer_above : (a b : ℕ) → settles (length g) g a ≡ true → list_any (nat_eq b) (successors g a) ≡ true
      → length (ancestors_in g b) < length (ancestors_in g a)
  fewer_above a b s is =
      let within : suc (length (ancestors_in g b)) ≤ length (ancestors_in g a) =
      length-le_from_is_member nat_eq_equiv (a ∷ ancestors_in g b) (ancestors_in g a)
      (IsDistinct-cons nat_eq a (ancestors_in g b) (apart_from (ancestors_in g b) a (not_above a b s is)) (ancestors_apart b))
      (λ c t. ⊎_elim
      (λ (here : nat_eq c a ≡ true).
      subst (λ (x : ℕ). list_any (nat_eq x) (ancestors_in g a) ≡ true) (sym (eqb-true c a here)) (ancestors_has_itself a))
      (λ (later : list_any (nat_eq c) (ancestors_in g b) ≡ true). more_above a b c s is later)
      (or_cases (nat_eq c a) (list_any (nat_eq c) (ancestors_in g b)) t)) in
      omega (arith, within)
