-- Where paths lead, and which of them end.
use Rattle.std.proofs.Common.{◌≡◌, ℕ, zero, suc, ◌+◌, ◌<◌, ◌≤◌, true, false, ◌||◌, ◌⊎◌, inl, inr, ⊎_elim, List, [], ◌∷◌, length, nat_eq, eqb-true, refl, sym, ap, subst, arith}
use Rattle.std.specs.List.{IsDistinct}
use Rattle.std.proofs.lemmas.Bool.{cases_Bool, cases_lt}
use Rattle.std.proofs.lemmas.List.{get_or_past}
use Rattle.std.proofs.lemmas.Map.Keys.{IsDistinct-cons}
use Rattle.std.proofs.lemmas.Map.Steps.{length-le_from_distinct_below}
use Rattle.graph_cycles.specs.Graphs.{Graph, successors, InRange, is_in, leads, is_on_cycle, settles, leads_to_no_cycle, IsReached}
use Rattle.graph_cycles.proofs.Members.{not_both, or_left, or_right, or_cases, itself, some_in, any_from, all_from, each_of, some_not, place_of, apart_from}

-- what a node leads to is a node of the graph
pub successor_in_range : (g : Graph) (a b : ℕ) → InRange g → is_in (successors g a) b ≡ true → b < length g
successor_in_range g a b in_range is =
    let at = place_of (successors g a) b is in
    ⊎_elim
    (λ (l : a < length g). subst (λ (x : ℕ). x < length g) (at.2 0) (in_range a [] l at.0 0 at.1))
    (λ (m : length g ≤ a). not_both is (ap (λ (xs : List ℕ). is_in xs b) (get_or_past g a [] m)))
    (cases_lt a (length g))

module _ (g : Graph) where
  -- more nodes, and more steps, only help
  pub settles-upto : (n m a : ℕ) → n ≤ m → settles n g a ≡ true → settles m g a ≡ true
  settles-upto zero m a l t = not_both t refl
  settles-upto (suc n) zero a l t = absurd (omega arith)
  settles-upto (suc n) (suc m) a l t =
      all_from (settles m g) (successors g a) (λ b is. settles-upto n m b (omega arith) (each_of (settles n g) (successors g a) b t is))

  pub leads-upto : (n m a b : ℕ) → n ≤ m → leads n g a b ≡ true → leads m g a b ≡ true
  leads-upto zero m a b l t = not_both t refl
  leads-upto (suc n) zero a b l t = absurd (omega arith)
  leads-upto (suc n) (suc m) a b l t =
      let r = some_in (λ next. nat_eq next b || leads n g next b) (successors g a) t in
      any_from (λ next. nat_eq next b || leads m g next b) (successors g a) r.0 r.1
      (⊎_elim
      (λ here. or_left (nat_eq r.0 b) (leads m g r.0 b) here)
      (λ later. or_right (nat_eq r.0 b) (leads m g r.0 b) (leads-upto n m r.0 b (omega arith) later))
      (or_cases (nat_eq r.0 b) (leads n g r.0 b) r.2))

  -- one step, a step before and a step behind
  pub leads-one : (n a b : ℕ) → is_in (successors g a) b ≡ true → leads (suc n) g a b ≡ true
  leads-one n a b is = any_from (λ next. nat_eq next b || leads n g next b) (successors g a) b is (or_left (nat_eq b b) (leads n g b b) (itself b))

  pub leads-before : (n a b c : ℕ) → is_in (successors g a) b ≡ true → leads n g b c ≡ true → leads (suc n) g a c ≡ true
  leads-before n a b c is t = any_from (λ next. nat_eq next c || leads n g next c) (successors g a) b is (or_right (nat_eq b c) (leads n g b c) t)

  -- the first step of those that lead somewhere
  pub first_step : (n a b : ℕ) → leads (suc n) g a b ≡ true → (c : ℕ) × (is_in (successors g a) c ≡ true) × ((c ≡ b) ⊎ (leads n g c b ≡ true))
  first_step n a b t =
      let r = some_in (λ next. nat_eq next b || leads n g next b) (successors g a) t in
      (r.0, r.1, ⊎_elim (λ here. inl (eqb-true r.0 b here)) (λ later. inr later) (or_cases (nat_eq r.0 b) (leads n g r.0 b) r.2))

  pub leads-behind : (n a b c : ℕ) → leads n g a b ≡ true → is_in (successors g b) c ≡ true → leads (suc n) g a c ≡ true
  leads-behind zero a b c t is = not_both t refl
  leads-behind (suc n) a b c t is =
      let r = first_step n a b t in
      leads-before (suc n) a r.0 c r.1
      (⊎_elim
      (λ (here : r.0 ≡ b). leads-one n r.0 c (subst (λ (x : ℕ). is_in (successors g x) c ≡ true) (sym here) is))
      (λ (later : leads n g r.0 b ≡ true). leads-behind n r.0 b c later is)
      r.2)

  -- what a node that settles leads to settles sooner
  pub settles-sooner : (m n a b : ℕ) → settles (suc n) g a ≡ true → leads m g a b ≡ true → settles n g b ≡ true
  settles-sooner zero n a b s t = not_both t refl
  settles-sooner (suc m) zero a b s t =
      let r = first_step m a b t in
      not_both (each_of (settles zero g) (successors g a) r.0 s r.1) refl
  settles-sooner (suc m) (suc n) a b s t =
      let r = first_step m a b t in
      let first : settles (suc n) g r.0 ≡ true = each_of (settles (suc n) g) (successors g a) r.0 s r.1 in
      ⊎_elim
      (λ (here : r.0 ≡ b). subst (λ (x : ℕ). settles (suc n) g x ≡ true) here first)
      (λ (later : leads m g r.0 b ≡ true). settles-upto n (suc n) b (omega arith) (settles-sooner m n r.0 b first later))
      r.2

  pub settled-no_cycle : (n m a : ℕ) → settles n g a ≡ true → leads m g a a ≡ false
  settled-no_cycle zero m a s = not_both s refl
  settled-no_cycle (suc n) m a s = ⊎_elim
      (λ t. not_both t (settled-no_cycle n m a (settles-sooner m n a a s t)))
      (λ f. f)
      (cases_Bool (leads m g a a))

  pub settled-beyond : (n m k a b : ℕ) → settles n g a ≡ true → leads m g a b ≡ true → leads k g b b ≡ false
  settled-beyond zero m k a b s t = not_both s refl
  settled-beyond (suc n) m k a b s t = settled-no_cycle n k b (settles-sooner m n a b s t)

-- a node on a cycle that is reached from a node
pub record Cycle (g : Graph) (start : ℕ) : Type 0 where
  pub node : ℕ
  pub within : node < length g
  pub reached : IsReached g start node
  pub cycle : is_on_cycle g node ≡ true

pub nothing_apart : IsDistinct nat_eq []
unfolding IsDistinct
nothing_apart = tt

module _ (g : Graph) (in_range : InRange g) (start : ℕ) where
  -- the nodes behind us differ, and each leads to where we are
  record Walked (behind : List ℕ) (a : ℕ) : Type 0 where
    pub apart : IsDistinct nat_eq behind
    pub below : (q : ℕ) → is_in behind q ≡ true → q < length g
    pub here : a < length g
    pub lead : (q : ℕ) → is_in behind q ≡ true → leads (length behind) g q a ≡ true
    pub began : (a ≡ start) ⊎ (leads (length behind) g start a ≡ true)

  no_more : (behind : List ℕ) (a : ℕ) → Walked behind a → length behind ≤ length g
  no_more behind a w = length-le_from_distinct_below behind (length g) w.apart w.below

  closes : (behind : List ℕ) (a : ℕ) → Walked behind a → is_in behind a ≡ true → Cycle g start
  closes behind a w is = record {
    node = a;
    within = w.here;
    reached = ⊎_elim (λ (e : a ≡ start). inl e) (λ (t : leads (length behind) g start a ≡ true). inr (leads-upto g (length behind) (length g) start a (no_more behind a w) t)) w.began;
    cycle = leads-upto g (length behind) (length g) a a (no_more behind a w) (w.lead a is);
  }

  below-more : (behind : List ℕ) (a : ℕ) → Walked behind a → (q : ℕ) → is_in (a ∷ behind) q ≡ true → q < length g
  below-more behind a w q is = ⊎_elim
      (λ (e : nat_eq q a ≡ true). subst (λ (x : ℕ). x < length g) (sym (eqb-true q a e)) w.here)
      (λ (later : is_in behind q ≡ true). w.below q later)
      (or_cases (nat_eq q a) (is_in behind q) is)

  walks : (behind : List ℕ) (a b : ℕ) → Walked behind a → is_in behind a ≡ false → is_in (successors g a) b ≡ true → Walked (a ∷ behind) b
  walks behind a b w new next = record {
    apart = IsDistinct-cons nat_eq a behind (apart_from behind a new) w.apart;
    below = below-more behind a w;
    here = successor_in_range g a b in_range next;
    lead = λ q is. ⊎_elim
        (λ (e : nat_eq q a ≡ true). subst (λ (x : ℕ). leads (suc (length behind)) g x b ≡ true) (sym (eqb-true q a e)) (leads-one g (length behind) a b next))
        (λ (later : is_in behind q ≡ true). leads-behind g (length behind) q a b (w.lead q later) next)
        (or_cases (nat_eq q a) (is_in behind q) is);
    began = inr (⊎_elim
        (λ (e : a ≡ start). subst (λ (x : ℕ). leads (suc (length behind)) g x b ≡ true) e (leads-one g (length behind) a b next))
        (λ (t : leads (length behind) g start a ≡ true). leads-behind g (length behind) start a b t next)
        w.began);
  }

  too_many : (behind : List ℕ) (a : ℕ) → Walked behind a → is_in behind a ≡ false → suc (length behind) ≤ length g
  too_many behind a w new =
      length-le_from_distinct_below (a ∷ behind) (length g) (IsDistinct-cons nat_eq a behind (apart_from behind a new) w.apart) (below-more behind a w)

  finds : (n : ℕ) (behind : List ℕ) (a : ℕ) → Walked behind a → n + length behind ≡ length g → settles n g a ≡ false → Cycle g start
  finds zero behind a w e s = ⊎_elim (closes behind a w) (λ new. absurd (omega (arith, too_many behind a w new))) (cases_Bool (is_in behind a))
  finds (suc n) behind a w e s = ⊎_elim (closes behind a w)
      (λ new.
      let r = some_not (settles n g) (successors g a) s in
      finds n (a ∷ behind) r.0 (walks behind a r.0 w new r.1) (omega arith) r.2)
      (cases_Bool (is_in behind a))

  -- a node that doesn't settle is on a cycle or leads to one
  pub cycle_found : start < length g → leads_to_no_cycle g start ≡ false → Cycle g start
  cycle_found l s = finds (length g) [] start
      (record { apart = nothing_apart; below = λ q is. not_both is refl; here = l; lead = λ q is. not_both is refl; began = inl refl })
      (omega arith) s
