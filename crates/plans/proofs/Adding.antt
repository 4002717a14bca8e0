-- Further answers change no outcome that was reached.
use Rattle.std.proofs.Common.{◌≡◌, ℕ, zero, suc, List, [], ◌∷◌, ◌++◌, refl}
use Rattle.plans.specs.Plans.{Plan, Outcome, finish, fail, ask, part, become, gives, faults, needs, onward, run, go, meaning, Outlasts}
use Rattle.plans.specs.Laws.{AnswersOnlyAdd}

onward-outlasts : {R Q A F : Type 0} (more : List A) (next : R → List A → ℕ → Outcome R Q A F) → ((r : R) (left : List A) (v : ℕ) → Outlasts more (next r left v) (next r (left ++ more) v)) → (o longer : Outcome R Q A F) → Outlasts more o longer → Outlasts more (onward o next) (onward longer next)
onward-outlasts more next h (gives r left v) longer e = rw e (h r left v)
onward-outlasts more next h (faults f left) longer e = rw e refl
onward-outlasts more next h (needs q) longer e = tt

pub run-outlasts : {T R Q A F : Type 0} (more : List A) (means : T → List A → ℕ → Outcome R Q A F) → ((t : T) (bs : List A) (u : ℕ) → Outlasts more (means t bs u) (means t (bs ++ more) u)) → (p : Plan T R Q A F) (bs : List A) (u : ℕ) → Outlasts more (run means p bs u) (run means p (bs ++ more) u)
run-outlasts more means h (finish r) bs u = refl
run-outlasts more means h (fail f) bs u = refl
run-outlasts more means h (ask q then) [] u = tt
run-outlasts more means h (ask q then) (a ∷ bs) u = run-outlasts more means h (then a) bs u
run-outlasts more means h (part t then) bs u = onward-outlasts more (λ r. run means (then r)) (λ r left v. run-outlasts more means h (then r) left v) (means t bs u) (means t (bs ++ more) u) (h t bs u)
run-outlasts more means h (become t) bs u = h t bs u

module _ {T R Q A F : Type 0} (plan : T → Plan T R Q A F) (spent : T → F) where
  pub go-outlasts : (more : List A) (n : ℕ) (t : T) (bs : List A) (u : ℕ) → Outlasts more (go plan spent n t bs u) (go plan spent n t (bs ++ more) u)
  go-outlasts more zero t bs u = refl
  go-outlasts more (suc n) t bs zero = refl
  go-outlasts more (suc n) t bs (suc u) = run-outlasts more (go plan spent n) (go-outlasts more n) (plan t) bs u

  pub reached : (t : T) (bs more : List A) (u : ℕ) → Outlasts more (meaning plan spent t bs u) (meaning plan spent t (bs ++ more) u)
  unfolding meaning
  reached t bs more u = go-outlasts more u t bs u

  pub waits : (t : T) (bs more : List A) (u : ℕ) (q : Q) → meaning plan spent t (bs ++ more) u ≡ needs q → (earlier : Q) × (meaning plan spent t bs u ≡ needs earlier)
  waits t bs more u q e = cases (meaning plan spent t bs u) refl (reached t bs more u)
    where
      cases : (o : Outcome R Q A F) → meaning plan spent t bs u ≡ o → Outlasts more o (meaning plan spent t (bs ++ more) u) → (earlier : Q) × (meaning plan spent t bs u ≡ needs earlier)
      cases (gives r left v) is same = absurd (cc (e, same))
      cases (faults f left) is same = absurd (cc (e, same))
      cases (needs earlier) is same = (earlier, is)

pub answers-only-add : {T R Q A F : Type 0} → AnswersOnlyAdd T R Q A F
answers-only-add = record { reached = reached; waits = waits }
