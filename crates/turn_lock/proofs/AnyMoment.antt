-- The laws of any moment, from the rule.
use Rattle.std.proofs.Common.{ℕ, List, ◌++◌, length, sym, ap, ◌∙◌, subst, ⊎_elim, arith, Option}
use Rattle.std.specs.Prelude.{slice_index}
use mathlib.Core.Logic.{dite}
use native.Mathlib.Decide.{ℕ_discrete}
use Rattle.atomic_table.specs.Table.{State}
use Rattle.turn_lock.specs.declared.view.View.{View}
use Rattle.pass_sums.specs.Counting.{total}
use Rattle.turn_lock.specs.Views.{is_taken, Stand}
use Rattle.turn_lock.specs.Rule.{IsKept, AtHome, IsOut}
use Rattle.turn_lock.specs.Moments.{IsFree, HasEveryNote, HasOwnNumber, KnowsABeginning}
use Rattle.pass_sums.proofs.Sums.{total_some}
use Rattle.turn_lock.proofs.Looking.{taken_is}
use Rattle.turn_lock.proofs.Serving.{alone}

module _ {V E : Type 0} (story : V → List E) (adds_up : V → Type 0) (passes : ℕ) (first : List E) (s : State (Option V) (View E)) (r : IsKept story adds_up passes first s) where
  home : IsFree s → AtHome story adds_up (first ++ r.noted) s.homes (total (λ (v : View E). is_taken v.stage) s.views)
  home free = ⊎_elim (λ h. h) (λ o. absurd (nobody o)) r.spot
    where
      nobody : IsOut s.homes (total (λ (v : View E). is_taken v.stage) s.views) → ⊥
      nobody o =
          let t = total_some (λ (v : View E). is_taken v.stage) s.views (omega (arith, o.taken)) in
          let served = taken_is t.1.stage t.3 in free t.0 served.0 t.1 t.2 served.1

  pub has_every_note : IsFree s → HasEveryNote story adds_up first s
  has_every_note free = let h = home free in record {
    value = h.value;
    slot_is = h.slot_is;
    sums = h.sums;
    noted = r.noted;
    story_is = h.story_is;
    count_is = ap (λ ws. slice_index ws 2) r.words_are;
    own_stand = λ j v at. subst (λ l. Stand (length first) l v.own) (sym h.story_is) (r.each_fits j v at).own_stand;
    places_are = r.places_are;
    weights_are = r.weights_are;
  }

  pub has_own_number : HasOwnNumber s
  has_own_number = record {
    number_is = λ j x v at is. ap (λ ws. slice_index ws 1) r.words_are ∙ sym ((r.each_fits j v at).served_is x is).0;
    one_pass = λ j k x y v w at to is so. dite (ℕ_discrete j k) (λ e. e) (λ apart. absurd (alone story adds_up passes first s r k y w to so j x v apart at is));
  }

  pub knows_a_beginning : KnowsABeginning first s
  knows_a_beginning = record {
    noted = r.noted;
    count_is = ap (λ ws. slice_index ws 2) r.words_are;
    seen_is = λ j v at. (r.each_fits j v at).seen_is;
    own_stand = λ j v at. (r.each_fits j v at).own_stand;
    taken_is = λ j x v at is. ((r.each_fits j v at).served_is x is).1;
  }
