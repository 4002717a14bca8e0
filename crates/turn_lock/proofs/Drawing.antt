-- Drawing a turn number keeps the rule.
use Rattle.std.proofs.Common.{◌≡◌, ℕ, ◌+◌, ◌*◌, ◌^◌, ◌%◌, ◌<◌, ◌≤◌, List, [], ◌∷◌, ◌++◌, length, sym, refl, ap, ◌∙◌, subst, arith, Option}
use Rattle.std.specs.Prelude.{slice_index, slice_set}
use Rattle.atomic_table.specs.Table.{State, Step, keeps, Allows}
use Rattle.turn_lock.specs.declared.view.Stage.TheVariants.{Idle, Waiting}
use Rattle.turn_lock.specs.declared.view.View.{View}
use Rattle.pass_sums.specs.Counting.{same}
use Rattle.turn_lock.specs.Views.{at_number, is_taken}
use Rattle.turn_lock.specs.Steps.{Known, Draws}
use Rattle.turn_lock.specs.Rule.{Fits, IsKept}
use Rattle.pass_sums.proofs.Sums.{total_most, total_same, below_next}
use Rattle.turn_lock.proofs.Moving.{St, Rule, Spot, moved}

module _ {V E : Type 0} (story : V → List E) (adds_up : V → Type 0) (passes : ℕ) (first : List E) where
  abbrev Kept : St story adds_up passes first → Type 0
  Kept = Rule story adds_up passes first

  -- sixteen passes with 2^40 turns each
  pub few_drawn : (s : State (Option V) (View E)) (r : IsKept story adds_up passes first s) → r.next ≤ 17592186044416
  few_drawn s r = let m = total_most (λ v. v.draws) (λ v. v.passes) 1099511627776 s.views (λ j u at. (r.each_fits j u at).few_draws) in
      omega (arith, r.draws_are, r.passes_are, r.few)

  pub draws : (slots id : ℕ) (me : Known V E) (st : Step (Option V)) → me.0.stage ≡ Idle → me.0.draws < 2 ^ 40 * me.0.passes
      → Allows (IsKept story adds_up passes first) slots id me 0 (λ n. (n + 1) % 2 ^ 64) (Draws st me)
  draws slots id me st idle room s r deep at fits =
      let n : ℕ = slice_index s.words 0 in
      let w : View E = record me.0 { stage = Waiting n; draws = me.0.draws + 1 } in
      let f : Fits first r.noted r.now me.0 = r.each_fits id me.0 at in
      let found : n ≡ r.next = ap (λ ws. slice_index ws 0) r.words_are in
      let few = few_drawn s r in
      let more : (r.next + 1) % 2 ^ 64 ≡ r.next + 1 = omega arith in (
        w,
        keeps,
        tt,
        moved story adds_up passes first s r id me.0 w (r.next + 1) r.now (slice_set s.words 0 ((n + 1) % 2 ^ 64)) s.homes at
            (ap (λ ws. slice_set ws 0 ((slice_index ws 0 + 1) % 2 ^ 64)) r.words_are ∙ ap (λ k. k ∷ r.now ∷ length r.noted ∷ []) more)
            refl refl (omega arith)
            (λ x. let a = ap (same x) found in let b = ap (at_number x) idle in let c = below_next r.next x in omega arith)
            (record {
              base_is = f.base_is;
              seen_is = f.seen_is;
              own_stand = f.own_stand;
              few_draws = omega arith;
              served_is = λ x e. absurd (cc);
              spent_is = λ z. absurd (omega arith);
            })
            (λ j u other to. r.each_fits j u to)
            (subst (Spot story adds_up passes first (first ++ r.noted) s.homes) (sym (total_same (λ u. is_taken u.stage) s.views id me.0 w at (sym (ap is_taken idle)))) r.spot),
        refl,
      )
