-- Counting a note keeps the rule: the entry stands behind all others, at the place that was found.
use Rattle.std.proofs.Common.{◌≡◌, ℕ, ◌+◌, ◌^◌, ◌%◌, ◌<◌, List, [], ◌∷◌, ◌++◌, length, set, sym, refl, ap, ◌∙◌, subst, inr, arith, Option, Some, append_assoc, length-append}
use Rattle.std.specs.Prelude.{slice_index, slice_set, slice_get}
use mathlib.Core.Option.{some}
use mathlib.Core.List.{IsPrefix}
use lib.ListN.{get_elem?}
use Rattle.atomic_table.specs.Table.{State, Step, keeps, Allows}
use Rattle.turn_lock.specs.declared.view.Stage.TheVariants.{Served}
use Rattle.turn_lock.specs.declared.view.View.{View}
use Rattle.pass_sums.specs.Counting.{same, below}
use Rattle.turn_lock.specs.Views.{at_number, is_taken, times, weight, Stand}
use Rattle.turn_lock.specs.Steps.{Known, Notes}
use Rattle.turn_lock.specs.Rule.{Fits, IsKept}
use Rattle.pass_sums.proofs.Sums.{total_append, total_set, total_same, below_next}
use Rattle.turn_lock.proofs.Places.{get_last, stand_longer, stand_append, stand_below, prefix_same, prefix_longer}
use Rattle.turn_lock.proofs.Moving.{each_set}
use Rattle.turn_lock.proofs.Serving.{is_out, alone}

module _ {E : Type 0} (first noted : List E) (e : E) where
  list_longer : first ++ (noted ++ e ∷ []) ≡ (first ++ noted) ++ e ∷ []
  list_longer = sym (append_assoc first noted (e ∷ []))

  length_longer : length (noted ++ e ∷ []) ≡ length noted + 1
  length_longer = length-append noted (e ∷ [])

  -- what another pass knows stays so
  others_fit : (now : ℕ) (u : View E) → ((y : ℕ) → u.stage ≡ Served y → ⊥) → Fits first noted now u → Fits first (noted ++ e ∷ []) now u
  others_fit now u waits g = record {
    base_is = g.base_is;
    seen_is = subst (IsPrefix u.seen) (sym list_longer) (prefix_longer u.seen (first ++ noted) (e ∷ []) g.seen_is);
    own_stand = subst (λ l. Stand (length first) l u.own) (sym list_longer) (stand_longer (length first) (first ++ noted) (e ∷ []) u.own g.own_stand);
    few_draws = g.few_draws;
    served_is = λ y is. absurd (waits y is);
    spent_is = g.spent_is;
  }

  -- and what the pass knows that noted
  own_fits : (now n : ℕ) (v : View E) → n ≡ length noted → 0 < v.passes → v.seen ≡ first ++ noted → Fits first noted now v
      → Fits first (noted ++ e ∷ []) now (record v { seen = v.seen ++ e ∷ []; own = v.own ++ (n, e) ∷ [] })
  own_fits now n v count some_pass saw f =
      let saw' : v.seen ++ e ∷ [] ≡ first ++ (noted ++ e ∷ []) = ap (λ l. l ++ e ∷ []) saw ∙ sym list_longer in
      let last : slice_get ((first ++ noted) ++ e ∷ []) (length first + n) ≡ Some e = get_last (first ++ noted) e (length first + n) (omega (arith, length-append first noted)) in record {
        base_is = f.base_is;
        seen_is = prefix_same (v.seen ++ e ∷ []) (first ++ (noted ++ e ∷ [])) saw';
        own_stand = subst (λ l. Stand (length first) l (v.own ++ (n, e) ∷ [])) (sym list_longer)
            (stand_append (length first) ((first ++ noted) ++ e ∷ []) v.own ((n, e) ∷ []) (stand_longer (length first) (first ++ noted) (e ∷ []) v.own f.own_stand) (last, tt));
        few_draws = f.few_draws;
        served_is = λ y is. ((f.served_is y is).0, saw');
        spent_is = λ z. absurd (omega arith);
      }

module _ {V E : Type 0} (story : V → List E) (adds_up : V → Type 0) (passes : ℕ) (first : List E) where
  noted : (s : State (Option V) (View E)) (r : IsKept story adds_up passes first s) (id n x : ℕ) (v : View E) (e : E) (words : List ℕ) → get_elem? s.views id ≡ some v
      → v.stage ≡ Served x → 0 < v.passes → n ≡ length r.noted → words ≡ r.next ∷ r.now ∷ length (r.noted ++ e ∷ []) ∷ []
      → IsKept story adds_up passes first record { words = words; homes = s.homes; views = set s.views id (record v { seen = v.seen ++ e ∷ []; own = v.own ++ (n, e) ∷ [] }) }
  noted s r id n x v e words at is some_pass count are =
      let w : View E = record v { seen = v.seen ++ e ∷ []; own = v.own ++ (n, e) ∷ [] } in
      let f : Fits first r.noted r.now v = r.each_fits id v at in record {
        next = r.next;
        now = r.now;
        noted = r.noted ++ e ∷ [];
        words_are = are;
        few = r.few;
        passes_are = total_same (λ u. u.passes) s.views id v w at refl ∙ r.passes_are;
        draws_are = total_same (λ u. u.draws) s.views id v w at refl ∙ r.draws_are;
        numbers_are = λ y. let t = total_same (λ u. at_number y u.stage) s.views id v w at refl in omega (arith, t, r.numbers_are y);
        places_are = λ y.
            let t = total_set (λ u. times y u.own) s.views id v w at in
            let a = total_append (λ (p : ℕ × E). same y p.0) v.own ((n, e) ∷ []) in
            let b = ap (same y) count in
            let c : below (length (r.noted ++ e ∷ [])) y ≡ below (length r.noted + 1) y = ap (λ k. below k y) (length_longer first r.noted e) in
            omega (arith, below_next (length r.noted) y, r.places_are y);
        weights_are = λ h.
            let t = total_set (λ u. weight h u.own) s.views id v w at in
            let a = total_append (λ (p : ℕ × E). h p.1) v.own ((n, e) ∷ []) in
            omega (arith, total_append h r.noted (e ∷ []), r.weights_are h);
        each_fits = each_set (Fits first (r.noted ++ e ∷ []) r.now) s.views id w (own_fits first r.noted e r.now n v count some_pass (f.served_is x is).1 f)
            (λ j u other to. others_fit first r.noted e r.now u (λ y. alone story adds_up passes first s r id x v at is j y u other to) (r.each_fits j u to));
        spot = let out = is_out story adds_up passes first s r id x v at is in
            inr (record { slot_is = out.slot_is; taken = total_same (λ u. is_taken u.stage) s.views id v w at refl ∙ out.taken });
      }

  pub notes : (slots id : ℕ) (me : Known V E) (st : Step (Option V)) (added : List E) (e : E) (x : ℕ) → added ≡ e ∷ [] → me.0.stage ≡ Served x → 0 < me.0.passes
      → length me.0.seen < 2 ^ 63 → Allows (IsKept story adds_up passes first) slots id me 2 (λ n. (n + 1) % 2 ^ 64) (Notes added st me)
  notes slots id me st added e x adds is some_pass room s r deep at fits =
      let n : ℕ = slice_index s.words 2 in
      let w : View E = record me.0 { seen = me.0.seen ++ e ∷ []; own = me.0.own ++ (n, e) ∷ [] } in
      let f : Fits first r.noted r.now me.0 = r.each_fits id me.0 at in
      let count : n ≡ length r.noted = ap (λ ws. slice_index ws 2) r.words_are in
      let saw = ap length (f.served_is x is).1 in
      let long = length-append first r.noted in
      let more : (length r.noted + 1) % 2 ^ 64 ≡ length r.noted + 1 = omega arith in (
        w,
        keeps,
        tt,
        noted s r id n x me.0 e (slice_set s.words 2 ((n + 1) % 2 ^ 64)) at is some_pass count
            (ap (λ ws. slice_set ws 2 ((slice_index ws 2 + 1) % 2 ^ 64)) r.words_are ∙ ap (λ k. r.next ∷ r.now ∷ k ∷ []) (more ∙ sym (length_longer first r.noted e))),
        λ e' adds'. let one : e ≡ e' = cc in (
          (λ i. (record me.0 { seen = me.0.seen ++ one i ∷ []; own = me.0.own ++ (n, one i) ∷ [] }, me.1)),
          (let b = ap length (f.base_is some_pass) in omega arith),
          stand_below (length first) n (first ++ r.noted) me.0.own (omega arith) f.own_stand,
        ),
      )
