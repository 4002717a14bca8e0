-- Looking which number is served keeps the rule, and where it is one's own, the value is at home.
use Rattle.std.proofs.Common.{◌≡◌, ◌≢◌, ℕ, ◌<◌, List, [], ◌∷◌, ◌++◌, length, set, sym, refl, ap, ◌∙◌, subst, ⊎_elim, inr, arith, Option, Some}
use Rattle.std.specs.Prelude.{slice_index, slice_set}
use mathlib.Core.Logic.{dite}
use mathlib.Core.List.{IsPrefix}
use native.Mathlib.Decide.{ℕ_discrete}
use mathlib.Core.Option.{none, some, some-injective}
use lib.ListN.{get_elem?}
use lib.Seq.{set-get_or}
use Rattle.atomic_table.specs.Table.{State, Step, keeps, takes, Allows}
use Rattle.atomic_table.proofs.Lists.{set_again}
use Rattle.turn_lock.specs.declared.view.Stage.{Stage}
use Rattle.turn_lock.specs.declared.view.Stage.TheVariants.{Idle, Waiting, Served}
use Rattle.turn_lock.specs.declared.view.View.{View}
use Rattle.pass_sums.specs.Counting.{total, same}
use Rattle.turn_lock.specs.Views.{at_number, is_taken, Stand}
use Rattle.turn_lock.specs.Steps.{Known, Looks}
use Rattle.turn_lock.specs.Rule.{Fits, AtHome, IsOut, IsKept}
use Rattle.pass_sums.proofs.Sums.{total_set, total_two, total_some, same_here, below_none, below_most}
use Rattle.turn_lock.proofs.Places.{prefix_same}
use Rattle.turn_lock.proofs.Moving.{moved}

pub taken_is : (st : Stage) → 0 < is_taken st → (x : ℕ) × (st ≡ Served x)
taken_is Idle h = absurd (omega arith)
taken_is (Waiting n) h = absurd (omega arith)
taken_is (Served n) h = (n, refl)

module _ {V E : Type 0} (story : V → List E) (adds_up : V → Type 0) (passes : ℕ) (first : List E) where
  -- while a pass waits for the number that is served, no turn is taken
  at_home : (s : State (Option V) (View E)) (r : IsKept story adds_up passes first s) (id : ℕ) (v : View E) → get_elem? s.views id ≡ some v → v.stage ≡ Waiting r.now
      → AtHome story adds_up (first ++ r.noted) s.homes (total (λ u. is_taken u.stage) s.views)
  at_home s r id v at waits = ⊎_elim (λ h. h) (λ o. absurd (clash o)) r.spot
    where
      clash : IsOut s.homes (total (λ u. is_taken u.stage) s.views) → ⊥
      clash o =
          let t = total_some (λ (u : View E). is_taken u.stage) s.views (omega (arith, o.taken)) in
          let served = taken_is t.1.stage t.3 in
          let now : served.0 ≡ r.now = ((r.each_fits t.0 t.1 t.2).served_is served.0 served.1).0 in
          let other : t.0 ≢ id = λ e. let same_view : t.1 ≡ v = some-injective t.1 v (sym t.2 ∙ ap (get_elem? s.views) e ∙ at) in
          let clash' : Served served.0 ≡ Waiting r.now = sym served.1 ∙ ap (λ (u : View E). u.stage) same_view ∙ waits in cc in
          let two = total_two (λ (u : View E). at_number r.now u.stage) s.views id t.0 v t.1 other at t.2 in
          let a : at_number r.now v.stage ≡ same r.now r.now = ap (at_number r.now) waits in
          let b : at_number r.now t.1.stage ≡ same r.now r.now = ap (at_number r.now) served.1 ∙ ap (same r.now) now in
          omega (arith, r.numbers_are r.now, same_here r.now, below_none r.now, below_most r.next r.now)

  pub looks : (slots id : ℕ) (me : Known V E) (st : Step (Option V)) (number : ℕ) → me.0.stage ≡ Waiting number → me.1 ≡ [] → 0 < me.0.passes
      → Allows (IsKept story adds_up passes first) slots id me 1 (λ n. n) (Looks story adds_up st me)
  looks slots id me st number waits bare some_pass s r deep at fits = dite (ℕ_discrete (slice_index s.words 1) number)
      (λ hit.
      let now : number ≡ r.now = sym hit ∙ ap (λ ws. slice_index ws 1) r.words_are in
      let home = at_home s r id me.0 at (waits ∙ ap Waiting now) in
      let w : View E = record me.0 { stage = Served number; seen = story home.value } in
      let f : Fits first r.noted r.now me.0 = r.each_fits id me.0 at in
      let stage = ap is_taken waits in (
        w,
        takes 0 (Some home.value),
        ap (λ hs. get_elem? hs 0) home.slot_is,
        moved story adds_up passes first s r id me.0 w r.next r.now (slice_set s.words 1 (slice_index s.words 1)) (slice_set s.homes 0 none) at
            (set-get_or s.words 1 0 ∙ r.words_are) refl refl refl
            (λ x. let b = ap (at_number x) waits in omega arith)
            (record {
              base_is = f.base_is;
              seen_is = prefix_same (story home.value) (first ++ r.noted) home.story_is;
              own_stand = f.own_stand;
              few_draws = f.few_draws;
              served_is = λ x e. (let same_number : number ≡ x = cc in sym same_number ∙ now, home.story_is);
              spent_is = λ z. absurd (omega arith);
            })
            (λ j u other to. r.each_fits j u to)
            (inr (record {
              slot_is = ap (λ hs. slice_set hs 0 none) home.slot_is;
              taken = let t = total_set (λ u. is_taken u.stage) s.views id me.0 w at in let z = home.free in omega arith;
            })),
        λ x e. (
          (λ miss. absurd (miss (hit ∙ own_number x e))),
          λ _. record {
            value = home.value;
            now_is = λ i. (record me.0 { stage = Served (own_number x e i); seen = story home.value }, (0, Some home.value) ∷ bare i);
            sums = home.sums;
            goes_on = subst (IsPrefix me.0.seen) (sym home.story_is) f.seen_is;
            from_base = (r.noted, ap (λ b. b ++ r.noted) (f.base_is some_pass) ∙ sym home.story_is);
            own_stand = subst (λ (y : List E × List E). Stand (length y.0) y.1 me.0.own) (λ i. (sym (f.base_is some_pass) i, sym home.story_is i)) f.own_stand;
          },
        ),
      ))
      (λ miss. (
        me.0,
        keeps,
        tt,
        subst (λ ws. IsKept story adds_up passes first record { words = ws; homes = s.homes; views = set s.views id me.0 }) (sym (set-get_or s.words 1 0))
            (subst (λ vs. IsKept story adds_up passes first record { words = s.words; homes = s.homes; views = vs }) (sym (set_again s.views id me.0 at)) r),
        λ x e. ((λ _. refl), λ hit. absurd (miss (hit ∙ sym (own_number x e)))),
      ))
    where
      own_number : (x : ℕ) → me.0.stage ≡ Waiting x → number ≡ x
      own_number x e = cc
