-- A step of one pass that notes nothing keeps the rule.
use Rattle.std.proofs.Common.{◌≡◌, ◌≢◌, ◌⊎◌, ℕ, ◌+◌, List, [], ◌∷◌, ◌++◌, length, set, ap, ◌∙◌, subst, ⊎_elim, arith, Option}
use mathlib.Core.Option.{none, some, some-injective}
use mathlib.Core.Option as maybe
use lib.ListN.{get_elem?}
use Rattle.atomic_table.specs.Table.{State}
use Rattle.atomic_table.proofs.Lists.{at_set}
use Rattle.turn_lock.specs.declared.view.View.{View}
use Rattle.pass_sums.specs.Counting.{total, below}
use Rattle.turn_lock.specs.Views.{at_number, is_taken, times, weight}
use Rattle.turn_lock.specs.Rule.{Fits, AtHome, IsOut, IsKept}
use Rattle.pass_sums.proofs.Sums.{total_set, total_same}

module _ {E : Type 0} where
  -- what holds of one pass and of the others holds of each
  pub each_set : (F : View E → Type 0) (views : List (View E)) (id : ℕ) (w : View E) → F w → ((j : ℕ) (u : View E) → j ≢ id → get_elem? views j ≡ some u → F u)
      → (j : ℕ) (u : View E) → get_elem? (set views id w) j ≡ some u → F u
  each_set F views id w mine others j u at = ⊎_elim (λ (t : (j ≡ id) × (w ≡ u)). subst F t.1 mine)
      (λ (t : (j ≢ id) × (get_elem? views j ≡ some u)). others j u t.0 t.1) (at_set views id j w u at)

module _ {V E : Type 0} (story : V → List E) (adds_up : V → Type 0) (passes : ℕ) (first : List E) where
  abbrev pub St : Type 0
  St = State (Option V) (View E)

  abbrev pub Homes : Type 0
  Homes = List (maybe.Option (Option V))

  abbrev pub Rule : St → Type 0
  Rule = IsKept story adds_up passes first

  abbrev pub Spot : List E → Homes → ℕ → Type 0
  Spot list homes turns = AtHome story adds_up list homes turns ⊎ IsOut homes turns

  pub moved : (s : St) (r : Rule s) (id : ℕ) (v w : View E) (next now : ℕ) (words : List ℕ) (homes : Homes) → get_elem? s.views id ≡ some v
      → words ≡ next ∷ now ∷ length r.noted ∷ [] → w.passes ≡ v.passes → w.own ≡ v.own → w.draws + r.next ≡ v.draws + next
      → ((x : ℕ) → at_number x w.stage + below now x + below r.next x ≡ at_number x v.stage + below r.now x + below next x)
      → Fits first r.noted now w → ((j : ℕ) (u : View E) → j ≢ id → get_elem? s.views j ≡ some u → Fits first r.noted now u)
      → Spot (first ++ r.noted) homes (total (λ u. is_taken u.stage) (set s.views id w)) → Rule record { words = words; homes = homes; views = set s.views id w }
  moved s r id v w next now words homes at are same_passes same_own draws numbers mine others spot = record {
    next = next;
    now = now;
    noted = r.noted;
    words_are = are;
    few = r.few;
    passes_are = total_same (λ u. u.passes) s.views id v w at same_passes ∙ r.passes_are;
    draws_are = let t = total_set (λ u. u.draws) s.views id v w at in let d = r.draws_are in omega arith;
    numbers_are = λ x. let t = total_set (λ u. at_number x u.stage) s.views id v w at in let n = numbers x in let d = r.numbers_are x in omega arith;
    places_are = λ x. total_same (λ u. times x u.own) s.views id v w at (ap (times x) same_own) ∙ r.places_are x;
    weights_are = λ f. total_same (λ u. weight f u.own) s.views id v w at (ap (weight f) same_own) ∙ r.weights_are f;
    each_fits = each_set (Fits first r.noted now) s.views id w mine others;
    spot = spot;
  }
