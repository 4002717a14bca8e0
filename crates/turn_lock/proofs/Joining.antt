-- Joining two passes keeps the rule, and when all are joined their notes are the whole list.
use Rattle.std.proofs.Common.{◌≡◌, ℕ, ◌+◌, ◌<◌, List, [], ◌++◌, length, set, sym, refl, ap, ◌∙◌, subst, ⊎_elim, arith, Option, Some}
use mathlib.Core.Option.{some}
use lib.ListN.{get_elem?}
use Rattle.atomic_table.specs.Table.{State, Joins, Final, Seen}
use Rattle.atomic_table.proofs.Lists.{set_else}
use Rattle.turn_lock.specs.declared.view.Stage.TheVariants.{Idle}
use Rattle.turn_lock.specs.declared.view.View.{View}
use Rattle.pass_sums.specs.Counting.{total, below}
use Rattle.turn_lock.specs.Views.{at_number, is_taken, times, weight, Stand, blank, pooled}
use Rattle.turn_lock.specs.Rule.{Fits, AtHome, IsKept}
use Rattle.turn_lock.specs.Whole.{IsWhole}
use Rattle.pass_sums.proofs.Sums.{total_append, total_set, total_only}
use Rattle.turn_lock.proofs.Places.{stand_append}
use Rattle.turn_lock.proofs.Moving.{each_set, Spot}

module _ {E : Type 0} (first noted : List E) (now : ℕ) where
  blank_fits : Fits first noted now blank
  blank_fits = record {
    base_is = λ h. absurd (omega arith);
    seen_is = (first ++ noted, refl);
    own_stand = tt;
    few_draws = omega arith;
    served_is = λ x e. absurd (cc);
    spent_is = λ z. (refl, refl);
  }

  pooled_fits : (v w : View E) → 0 < v.passes → Fits first noted now v → Fits first noted now w → Fits first noted now (pooled v w)
  pooled_fits v w some_pass f h = record {
    base_is = λ _. f.base_is some_pass;
    seen_is = f.seen_is;
    own_stand = stand_append (length first) (first ++ noted) w.own v.own h.own_stand f.own_stand;
    few_draws = let a = f.few_draws in let b = h.few_draws in omega arith;
    served_is = λ x e. absurd (cc);
    spent_is = λ z. absurd (omega arith);
  }

module _ {V E : Type 0} (story : V → List E) (adds_up : V → Type 0) (passes : ℕ) (first : List E) where
  pub joins : (id : ℕ) (v : View E) (other : ℕ) (w : View E) → 0 < v.passes → v.stage ≡ Idle → w.stage ≡ Idle
      → Joins (IsKept story adds_up passes first) id v other w (pooled v w) blank
  joins id v other w some_pass idle idle' s r at apart at' =
      let both : View E = pooled v w in
      let views : List (View E) = set s.views id both in
      let to : get_elem? s.views other ≡ some w = sym (set_else s.views id other both apart) ∙ at' in
      let f : Fits first r.noted r.now v = r.each_fits id v at in
      let h : Fits first r.noted r.now w = r.each_fits other w to in
      let sums : (k : View E → ℕ) → k both + k blank ≡ k v + k w → total k (set views other blank) ≡ total k s.views =
      λ k e. omega (arith, e, total_set k s.views id v both at, total_set k views other w blank at') in record {
        next = r.next;
        now = r.now;
        noted = r.noted;
        words_are = r.words_are;
        few = r.few;
        passes_are = sums (λ u. u.passes) (omega arith) ∙ r.passes_are;
        draws_are = sums (λ u. u.draws) (omega arith) ∙ r.draws_are;
        numbers_are = λ x. let a = ap (at_number x) idle in let b = ap (at_number x) idle' in
            let t = sums (λ u. at_number x u.stage) (omega arith) in let n = r.numbers_are x in omega arith;
        places_are = λ x. sums (λ u. times x u.own) (omega (arith, total_append (λ (p : ℕ × E). Rattle.pass_sums.specs.Counting.same x p.0) w.own v.own)) ∙ r.places_are x;
        weights_are = λ k. sums (λ u. weight k u.own) (omega (arith, total_append (λ (p : ℕ × E). k p.1) w.own v.own)) ∙ r.weights_are k;
        each_fits = each_set (Fits first r.noted r.now) views other blank (blank_fits first r.noted r.now)
            (λ j u _ at_j. each_set (Fits first r.noted r.now) s.views id both (pooled_fits first r.noted r.now v w some_pass f h) (λ j u _ at_j. r.each_fits j u at_j) j u at_j);
        spot = let a = ap is_taken idle in let b = ap is_taken idle' in
            subst (Spot story adds_up passes first (first ++ r.noted) s.homes) (sym (sums (λ u. is_taken u.stage) (omega arith))) r.spot;
      }

  pub record Ended (own : List (ℕ × E)) (slots : List (Option V)) : Type 0 where
    pub value : V
    pub slot_is : get_elem? slots 0 ≡ some (Some value)
    pub sums : adds_up value
    pub whole : IsWhole first own (story value)

  -- the pass that stands for all has every note, and the value is at home
  pub ends : (id : ℕ) (v : View E) (words : List ℕ) (slots : List (Option V)) → v.passes ≡ passes → v.stage ≡ Idle
      → Final (Seen (IsKept story adds_up passes first) id v) words slots → Ended v.own slots
  ends id v words slots all idle final =
      let s : State (Option V) (View E) = final.0 in
      let r : IsKept story adds_up passes first s = final.1.0 in
      let at : get_elem? s.views id ≡ some v = final.1.1 in
      let only : (k : View E → ℕ) → ((u : View E) → u.stage ≡ Idle → u.own ≡ [] → k u ≡ 0) → total k s.views ≡ k v =
      λ k none. total_only k (λ u. u.passes) s.views id v at (r.passes_are ∙ sym all)
      (λ j u to z. let spent = (r.each_fits j u to).spent_is z in none u spent.0 spent.1) in
      let turns : total (λ (u : View E). is_taken u.stage) s.views ≡ 0 = only (λ u. is_taken u.stage) (λ u i _. ap is_taken i) ∙ ap is_taken idle in
      let home : AtHome story adds_up (first ++ r.noted) s.homes (total (λ (u : View E). is_taken u.stage) s.views) = ⊎_elim (λ h. h) (λ o. absurd (omega (arith, o.taken))) r.spot in record {
        value = home.value;
        slot_is = final.4 0 (Some home.value) (ap (λ hs. get_elem? hs 0) home.slot_is);
        sums = home.sums;
        whole = record {
          noted = r.noted;
          list_is = home.story_is;
          own_stand = subst (λ l. Stand (length first) l v.own) (sym home.story_is) (r.each_fits id v at).own_stand;
          places_are = λ x. sym (only (λ u. times x u.own) (λ u _ b. ap (times x) b)) ∙ r.places_are x;
          weights_are = λ k. sym (only (λ u. weight k u.own) (λ u _ b. ap (weight k) b)) ∙ r.weights_are k;
        };
      }
