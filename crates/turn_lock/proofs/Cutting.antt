-- The table at the start keeps the rule, and so does cutting a pass off a view that did nothing yet.
use Rattle.std.proofs.Common.{◌≡◌, ℕ, ◌+◌, ◌-◌, ◌<◌, ◌≤◌, zero, suc, List, [], ◌∷◌, ◌++◌, set, sym, refl, ap, ◌∙◌, subst, ⊎_elim, inl, arith, Some}
use mathlib.Core.Option.{some, some-injective, some-ne-none}
use mathlib.Core.List.{append-nil}
use lib.ListN.{get_elem?}
use Rattle.atomic_table.specs.Table.{opening, Splits}
use Rattle.atomic_table.proofs.Lists.{at_snoc}
use Rattle.turn_lock.specs.declared.view.Stage.TheVariants.{Idle}
use Rattle.turn_lock.specs.declared.view.View.{View}
use Rattle.pass_sums.specs.Counting.{total}
use Rattle.turn_lock.specs.Views.{at_number, is_taken, times, weight, fresh}
use Rattle.turn_lock.specs.Rule.{Fits, IsKept}
use Rattle.pass_sums.proofs.Sums.{below_zero, total_append, total_set}
use Rattle.turn_lock.proofs.Moving.{each_set, Spot}

module _ {E : Type 0} (first noted : List E) (now : ℕ) where
  pub fresh_fits : (n : ℕ) → 0 < n → Fits first noted now (fresh n first)
  fresh_fits n some_pass = record {
    base_is = λ _. refl;
    seen_is = (noted, refl);
    own_stand = tt;
    few_draws = omega arith;
    served_is = λ x e. absurd (cc);
    spent_is = λ z. absurd (omega arith);
  }

module _ {V E : Type 0} (story : V → List E) (adds_up : V → Type 0) (passes : ℕ) where
  pub begins : (value : V) → 0 < passes → passes ≤ 16 → adds_up value
      → IsKept story adds_up passes (story value) (opening (0 ∷ 0 ∷ 0 ∷ []) (Some value ∷ []) (fresh passes (story value)))
  begins value some_pass few sums = record {
    next = 0;
    now = 0;
    noted = [];
    words_are = refl;
    few = few;
    passes_are = omega arith;
    draws_are = omega arith;
    numbers_are = λ x. omega arith;
    places_are = λ x. sym (below_zero x);
    weights_are = λ f. refl;
    each_fits = only;
    spot = inl (record { value = value; slot_is = refl; story_is = sym (append-nil (story value)); sums = sums; free = refl });
  }
    where
      only : (j : ℕ) (v : View E) → get_elem? (fresh passes (story value) ∷ []) j ≡ some v → Fits (story value) [] 0 v
      only zero v at = subst (Fits (story value) [] 0) (some-injective (fresh passes (story value)) v at) (fresh_fits (story value) [] 0 passes some_pass)
      only (suc j) v at = absurd (some-ne-none v (sym at))

  module _ (first : List E) where
    pub splits : (id : ℕ) (v : View E) → 1 < v.passes → v.stage ≡ Idle → v.draws ≡ 0 → v.own ≡ [] → Splits (IsKept story adds_up passes first) id v (fresh (v.passes - 1) v.base) (fresh 1 v.base)
    splits id v several idle none bare s r at =
        let f : Fits first r.noted r.now v = r.each_fits id v at in
        let base : first ≡ v.base = sym (f.base_is (omega arith)) in
        let left : View E = fresh (v.passes - 1) v.base in
        let right : View E = fresh 1 v.base in
        let half : (n : ℕ) → 0 < n → Fits first r.noted r.now (fresh n v.base) = λ n h. subst (λ l. Fits first r.noted r.now (fresh n l)) base (fresh_fits first r.noted r.now n h) in
        let sums : (h : View E → ℕ) → h left + h right ≡ h v → total h (set s.views id left ++ right ∷ []) ≡ total h s.views =
        λ h e. omega (arith, e, total_append h (set s.views id left) (right ∷ []), total_set h s.views id v left at) in record {
          next = r.next;
          now = r.now;
          noted = r.noted;
          words_are = r.words_are;
          few = r.few;
          passes_are = sums (λ u. u.passes) (omega arith) ∙ r.passes_are;
          draws_are = sums (λ u. u.draws) (omega arith) ∙ r.draws_are;
          numbers_are = λ x. let t = sums (λ u. at_number x u.stage) (sym (ap (at_number x) idle)) in let n = r.numbers_are x in omega arith;
          places_are = λ x. sums (λ u. times x u.own) (sym (ap (times x) bare)) ∙ r.places_are x;
          weights_are = λ h. sums (λ u. weight h u.own) (sym (ap (weight h) bare)) ∙ r.weights_are h;
          each_fits = λ j u to. ⊎_elim
              (each_set (Fits first r.noted r.now) s.views id left (half (v.passes - 1) (omega arith)) (λ j u other to. r.each_fits j u to) j u)
              (λ is. subst (Fits first r.noted r.now) is (half 1 (omega arith))) (at_snoc (set s.views id left) right u j to);
          spot = subst (Spot story adds_up passes first (first ++ r.noted) s.homes) (sym (sums (λ u. is_taken u.stage) (sym (ap is_taken idle)))) r.spot;
        }
