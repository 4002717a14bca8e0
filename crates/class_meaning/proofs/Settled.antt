-- Where no node of a graph is on a circle, each node settles: and so where the table of the classes refuses nothing.
use Rattle.std.proofs.Common.{◌≡◌, ℕ, zero, suc, ◌+◌, ◌<◌, ◌≤◌, Bool, true, false, ◌&&◌, ◌⊎◌, inl, inr, ⊎_elim, List, [], ◌∷◌, None, length, map, get_or, nat_eq, eqb-true, refl, ap, sym, subst, arith}
use Rattle.std.specs.List.{list_any, list_all, IsDistinct}
use Rattle.std.proofs.lemmas.Bool.{cases_Bool, cases_lt}
use Rattle.std.proofs.lemmas.List.{get_or_past}
use Rattle.std.proofs.lemmas.Map.Keys.{IsDistinct-cons}
use Rattle.std.proofs.lemmas.Map.Steps.{length-le_from_distinct_below}
use Rattle.abstract_syntax.specs.Classes.{SpecTree}
use Rattle.graph_cycles.specs.Graphs.{Graph, InRange, successors, leads, is_on_cycle, settles}
use Rattle.class_meaning.specs.Classes.{class_graph, superclass_numbers}
use Rattle.class_meaning.specs.Faults.{table_fault}
use Rattle.class_meaning.specs.TypeGraph.{type_graph}
use Rattle.class_meaning.proofs.Firsts.{nothing_apart}
use Rattle.class_meaning.proofs.Numbers.{not_both, or_left, or_right, or_cases, itself, apart_from}
use Rattle.class_meaning.proofs.Ranges.{class_graph_in_range, type_graph_in_range}
use Rattle.class_meaning.proofs.Refusals.{class_on_no_circle, type_on_no_circle}
use Rattle.class_meaning.proofs.Walks.{first_step, leads_before}

and_cases : (a b : Bool) → (a && b) ≡ false → (a ≡ false) ⊎ (b ≡ false)
and_cases true b f = inr f
and_cases false b f = inl refl

some_not : (p : ℕ → Bool) (xs : List ℕ) → list_all p xs ≡ false → (x : ℕ) × (list_any (nat_eq x) xs ≡ true) × (p x ≡ false)
some_not p [] f = not_both refl f
some_not p (x ∷ xs) f = ⊎_elim
    (λ here. (x, or_left (nat_eq x x) (list_any (nat_eq x) xs) (itself x), here))
    (λ later. let r = some_not p xs later in (r.0, or_right (nat_eq r.0 x) (list_any (nat_eq r.0) xs) r.1, r.2))
    (and_cases (p x) (list_all p xs) f)

place_of : (xs : List ℕ) (a : ℕ) → list_any (nat_eq a) xs ≡ true → (k : ℕ) × (k < length xs) × ((d : ℕ) → get_or xs k d ≡ a)
place_of [] a is = not_both is refl
place_of (x ∷ xs) a is = ⊎_elim
    (λ here. (0, omega arith, λ d. sym (eqb-true a x here)))
    (λ later. let r = place_of xs a later in (suc r.0, omega (arith, r.1), r.2))
    (or_cases (nat_eq a x) (list_any (nat_eq a) xs) is)

-- what a node leads to is a node of the graph
pub successor_in_range : (g : Graph) (a b : ℕ) → InRange g → list_any (nat_eq b) (successors g a) ≡ true → b < length g
successor_in_range g a b in_range is =
    let at = place_of (successors g a) b is in
    ⊎_elim
    (λ (l : a < length g). subst (λ (x : ℕ). x < length g) (at.2 0) (in_range a [] l at.0 0 at.1))
    (λ (m : length g ≤ a). not_both is (ap (λ (xs : List ℕ). list_any (nat_eq b) xs) (get_or_past g a [] m)))
    (cases_lt a (length g))

module _ (g : Graph) where
  -- more steps lead to the same
  more_leads : (n m a b : ℕ) → n ≤ m → leads n g a b ≡ true → leads m g a b ≡ true
  more_leads zero m a b l t = not_both t refl
  more_leads (suc n) zero a b l t = absurd (omega arith)
  more_leads (suc n) (suc m) a b l t =
      let r = first_step g n a b t in
      leads_before g m a r.0 b r.1 (⊎_elim
      (λ (here : r.0 ≡ b). or_left (nat_eq r.0 b) (leads m g r.0 b) (subst (λ (x : ℕ). nat_eq r.0 x ≡ true) here (itself r.0)))
      (λ (later : leads n g r.0 b ≡ true). or_right (nat_eq r.0 b) (leads m g r.0 b) (more_leads n m r.0 b (omega arith) later))
      r.2)

  leads_one : (n a b : ℕ) → list_any (nat_eq b) (successors g a) ≡ true → leads (suc n) g a b ≡ true
  leads_one n a b is = leads_before g n a b b is (or_left (nat_eq b b) (leads n g b b) (itself b))

  leads_behind : (n a b c : ℕ) → leads n g a b ≡ true → list_any (nat_eq c) (successors g b) ≡ true → leads (suc n) g a c ≡ true
  leads_behind zero a b c t is = not_both t refl
  leads_behind (suc n) a b c t is =
      let r = first_step g n a b t in
      leads_before g (suc n) a r.0 c r.1 (or_right (nat_eq r.0 c) (leads (suc n) g r.0 c)
      (⊎_elim
      (λ (here : r.0 ≡ b). leads_one n r.0 c (subst (λ (x : ℕ). list_any (nat_eq c) (successors g x) ≡ true) (sym here) is))
      (λ (later : leads n g r.0 b ≡ true). leads_behind n r.0 b c later is)
      r.2))

-- A node that doesn't settle has a successor that doesn't, and so on: before the graph's nodes are used up one is met again, which then is
-- on a circle.
module _ (g : Graph) (in_range : InRange g) (no_circle : (b : ℕ) → is_on_cycle g b ≡ false) where
  -- the nodes behind us differ, and each leads to where we are
  record Walked (behind : List ℕ) (a : ℕ) : Type 0 where
    pub apart : IsDistinct nat_eq behind
    pub below : (q : ℕ) → list_any (nat_eq q) behind ≡ true → q < length g
    pub here : a < length g
    pub lead : (q : ℕ) → list_any (nat_eq q) behind ≡ true → leads (length behind) g q a ≡ true

  -- a node that stands behind us is on a circle
  not_again : (behind : List ℕ) (a : ℕ) → Walked behind a → list_any (nat_eq a) behind ≡ true → ⊥
  not_again behind a w is = not_both
      (more_leads g (length behind) (length g) a a (length-le_from_distinct_below behind (length g) w.apart w.below) (w.lead a is))
      (no_circle a)

  below_more : (behind : List ℕ) (a : ℕ) → Walked behind a → (q : ℕ) → list_any (nat_eq q) (a ∷ behind) ≡ true → q < length g
  below_more behind a w q is = ⊎_elim
      (λ (e : nat_eq q a ≡ true). subst (λ (x : ℕ). x < length g) (sym (eqb-true q a e)) w.here)
      (λ (later : list_any (nat_eq q) behind ≡ true). w.below q later)
      (or_cases (nat_eq q a) (list_any (nat_eq q) behind) is)

  walks : (behind : List ℕ) (a b : ℕ) → Walked behind a → list_any (nat_eq a) behind ≡ false → list_any (nat_eq b) (successors g a) ≡ true
      → Walked (a ∷ behind) b
  walks behind a b w new next = record {
    apart = IsDistinct-cons nat_eq a behind (apart_from behind a new) w.apart;
    below = below_more behind a w;
    here = successor_in_range g a b in_range next;
    lead = λ q is. ⊎_elim
        (λ (e : nat_eq q a ≡ true). subst (λ (x : ℕ). leads (suc (length behind)) g x b ≡ true) (sym (eqb-true q a e))
        (leads_one g (length behind) a b next))
        (λ (later : list_any (nat_eq q) behind ≡ true). leads_behind g (length behind) q a b (w.lead q later) next)
        (or_cases (nat_eq q a) (list_any (nat_eq q) behind) is);
  }

  too_many : (behind : List ℕ) (a : ℕ) → Walked behind a → list_any (nat_eq a) behind ≡ false → suc (length behind) ≤ length g
  too_many behind a w new = length-le_from_distinct_below (a ∷ behind) (length g)
      (IsDistinct-cons nat_eq a behind (apart_from behind a new) w.apart) (below_more behind a w)

  ends : (n : ℕ) (behind : List ℕ) (a : ℕ) → Walked behind a → n + length behind ≡ length g → settles n g a ≡ true
  ends zero behind a w e = ⊎_elim
      (λ is. absurd (not_again behind a w is))
      (λ new. absurd (omega (arith, too_many behind a w new)))
      (cases_Bool (list_any (nat_eq a) behind))
  ends (suc n) behind a w e = ⊎_elim
      (λ is. absurd (not_again behind a w is))
      (λ new. ⊎_elim
      (λ (t : list_all (settles n g) (successors g a) ≡ true). t)
      (λ (f : list_all (settles n g) (successors g a) ≡ false).
      let r = some_not (settles n g) (successors g a) f in
      not_both (ends n (a ∷ behind) r.0 (walks behind a r.0 w new r.1) (omega arith)) r.2)
      (cases_Bool (list_all (settles n g) (successors g a))))
      (cases_Bool (list_any (nat_eq a) behind))

  pub settles_without_circles : (a : ℕ) → a < length g → settles (length g) g a ≡ true
  settles_without_circles a l =
      ends (length g) [] a (record {
        apart = nothing_apart;
        below = λ q is. not_both is refl;
        here = l;
        lead = λ q is. not_both is refl;
      }) (omega arith)

-- of each node, also of what stands past the end
no_successors : (g : Graph) (n a : ℕ) → successors g a ≡ [] → settles (suc n) g a ≡ true
no_successors g n a e = ap (λ (xs : List ℕ). list_all (settles n g) xs) e

module _ (spec : SpecTree) (fine : table_fault spec ≡ None) where
  pub classes_settle : (k : ℕ) → settles (length (class_graph spec)) (class_graph spec) k ≡ true
  classes_settle k = ⊎_elim
      (λ (l : k < length (class_graph spec)).
      settles_without_circles (class_graph spec) (class_graph_in_range spec) (class_on_no_circle spec fine) k l)
      (λ (m : length (class_graph spec) ≤ k).
      no_successors (class_graph spec) (length (map (superclass_numbers spec) spec.classes)) k
      (get_or_past (class_graph spec) k [] m))
      (cases_lt k (length (class_graph spec)))

  pub types_settle : (i : ℕ) → i < length (type_graph spec) → settles (length (type_graph spec)) (type_graph spec) i ≡ true
  types_settle i l = settles_without_circles (type_graph spec) (type_graph_in_range spec) (type_on_no_circle spec fine) i l
