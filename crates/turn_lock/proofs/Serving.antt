-- Giving the value back and serving the next number keeps the rule.
use Rattle.std.proofs.Common.{◌≡◌, ◌≢◌, ℕ, ◌+◌, ◌^◌, ◌%◌, ◌<◌, List, [], ◌∷◌, length, refl, ap, ◌∙◌, ⊎_elim, inl, arith, Option, Some}
use Rattle.std.specs.Prelude.{slice_index, slice_set}
use mathlib.Core.Option.{some}
use lib.ListN.{get_elem?}
use Rattle.atomic_table.specs.Table.{State, Step, gives, put_back, rest, Allows}
use Rattle.turn_lock.specs.declared.view.Stage.TheVariants.{Idle, Served}
use Rattle.turn_lock.specs.declared.view.View.{View}
use Rattle.pass_sums.specs.Counting.{total, same}
use Rattle.turn_lock.specs.Views.{at_number, is_taken}
use Rattle.turn_lock.specs.Steps.{Known, Serves}
use Rattle.turn_lock.specs.Rule.{Fits, IsOut, IsKept}
use Rattle.pass_sums.proofs.Sums.{total_set, total_one, total_two, same_here, below_next, below_none, below_some}
use Rattle.turn_lock.proofs.Drawing.{few_drawn}
use Rattle.turn_lock.proofs.Moving.{moved}

module _ {V E : Type 0} (story : V → List E) (adds_up : V → Type 0) (passes : ℕ) (first : List E) where
  -- while a pass has its turn, the value is out
  pub is_out : (s : State (Option V) (View E)) (r : IsKept story adds_up passes first s) (id x : ℕ) (v : View E) → get_elem? s.views id ≡ some v → v.stage ≡ Served x
      → IsOut s.homes (total (λ u. is_taken u.stage) s.views)
  is_out s r id x v at serves = ⊎_elim
      (λ h. absurd (let o = total_one (λ (u : View E). is_taken u.stage) s.views id v at in let a = ap is_taken serves in omega (arith, h.free))) (λ o. o) r.spot

  -- no other pass has a turn then
  pub alone : (s : State (Option V) (View E)) (r : IsKept story adds_up passes first s) (id x : ℕ) (v : View E) → get_elem? s.views id ≡ some v → v.stage ≡ Served x
      → (j y : ℕ) (u : View E) → j ≢ id → get_elem? s.views j ≡ some u → u.stage ≡ Served y → ⊥
  alone s r id x v at serves j y u other to is =
      let two = total_two (λ (u : View E). is_taken u.stage) s.views id j v u other at to in
      let a = ap is_taken serves in let b = ap is_taken is in
      omega (arith, (is_out s r id x v at serves).taken)

  -- the number that is served was drawn
  drawn : (s : State (Option V) (View E)) (r : IsKept story adds_up passes first s) (id : ℕ) (v : View E) → get_elem? s.views id ≡ some v → v.stage ≡ Served r.now → r.now < r.next
  drawn s r id v at serves =
      let o = total_one (λ (u : View E). at_number r.now u.stage) s.views id v at in
      let a = ap (at_number r.now) serves in
      below_some r.next r.now (omega (arith, r.numbers_are r.now, same_here r.now, below_none r.now))

  pub serves : (slots id : ℕ) (me : Known V E) (st : Step (Option V)) (x : ℕ) (value : V) → me.0.stage ≡ Served x → me.1 ≡ (0, Some value) ∷ []
      → story value ≡ me.0.seen → adds_up value → Allows (IsKept story adds_up passes first) slots id me 1 (λ n. (n + 1) % 2 ^ 64) (Serves st me)
  serves slots id me st x value is held told sums s r deep at fits =
      let n : ℕ = slice_index s.words 1 in
      let w : View E = record me.0 { stage = Idle } in
      let f : Fits first r.noted r.now me.0 = r.each_fits id me.0 at in
      let now : x ≡ r.now = (f.served_is x is).0 in
      let lt = drawn s r id me.0 at (is ∙ ap Served now) in
      let few = few_drawn story adds_up passes first s r in
      let more : (r.now + 1) % 2 ^ 64 ≡ r.now + 1 = omega arith in
      let out = is_out s r id x me.0 at is in (
        w,
        gives,
        tt,
        moved story adds_up passes first s r id me.0 w r.next (r.now + 1) (slice_set s.words 1 ((n + 1) % 2 ^ 64)) (put_back s.homes me.1) at
            (ap (λ ws. slice_set ws 1 ((slice_index ws 1 + 1) % 2 ^ 64)) r.words_are ∙ ap (λ k. r.next ∷ k ∷ length r.noted ∷ []) more)
            refl refl refl
            (λ y. let a : at_number y me.0.stage ≡ same y r.now = ap (at_number y) is ∙ ap (same y) now in let c = below_next r.now y in omega arith)
            (record {
              base_is = f.base_is;
              seen_is = f.seen_is;
              own_stand = f.own_stand;
              few_draws = f.few_draws;
              served_is = λ y e. absurd (cc);
              spent_is = λ z. (refl, (f.spent_is z).1);
            })
            (λ j u other to. let g = r.each_fits j u to in record {
              base_is = g.base_is;
              seen_is = g.seen_is;
              own_stand = g.own_stand;
              few_draws = g.few_draws;
              served_is = λ y e. absurd (alone s r id x me.0 at is j y u other to e);
              spent_is = g.spent_is;
            })
            (inl (record {
              value = value;
              slot_is = ap (put_back s.homes) held ∙ ap (λ hs. slice_set hs 0 (some (Some value))) out.slot_is;
              story_is = told ∙ (f.served_is x is).1;
              sums = sums;
              free = let t = total_set (λ u. is_taken u.stage) s.views id me.0 w at in let a = ap is_taken is in let b = out.taken in omega arith;
            })),
        λ i. (w, rest (held i)),
      )
