-- Plans that ask only questions of a kind: where the plan of each task does, nothing else is needed, whatever is answered.
use Rattle.std.proofs.Common.{ℕ, zero, suc, List, [], ◌∷◌}
use Rattle.plans.specs.Plans.{Plan, Outcome, finish, fail, ask, part, become, gives, faults, needs, onward, run, go, meaning, bind}

module _ {T R Q A F : Type 0} (IsOne : Q → Type 0) where
  -- each question on each way through the plan is of the kind
  abbrev pub AsksOnly : Plan T R Q A F → Type 0
  AsksOnly (finish r) = Unit {0}
  AsksOnly (fail f) = Unit {0}
  AsksOnly (ask q then) = IsOne q × ((a : A) → AsksOnly (then a))
  AsksOnly (part t then) = (r : R) → AsksOnly (then r)
  AsksOnly (become t) = Unit {0}

  pub bind-asks : (p : Plan T R Q A F) (next : R → Plan T R Q A F) → AsksOnly p → ((r : R) → AsksOnly (next r)) → AsksOnly (bind p next)
  bind-asks (finish r) next asks h = h r
  bind-asks (fail f) next asks h = tt
  bind-asks (ask q then) next asks h = (asks.0, λ a. bind-asks (then a) next (asks.1 a) h)
  bind-asks (part t then) next asks h = λ r. bind-asks (then r) next (asks r) h
  bind-asks (become t) next asks h = h

-- a question that is needed is of the kind
abbrev pub NeedsOnly : {R Q A F : Type 0} → (Q → Type 0) → Outcome R Q A F → Type 0
NeedsOnly IsOne (gives r left v) = Unit {0}
NeedsOnly IsOne (faults f left) = Unit {0}
NeedsOnly IsOne (needs q) = IsOne q

onward-needs : {R Q A F : Type 0} (IsOne : Q → Type 0) (next : R → List A → ℕ → Outcome R Q A F) → ((r : R) (bs : List A) (u : ℕ) → NeedsOnly IsOne (next r bs u)) → (o : Outcome R Q A F) → NeedsOnly IsOne o → NeedsOnly IsOne (onward o next)
onward-needs IsOne next h (gives r left v) n = h r left v
onward-needs IsOne next h (faults f left) n = tt
onward-needs IsOne next h (needs q) n = n

module _ {T R Q A F : Type 0} (IsOne : Q → Type 0) where
  run-needs : (means : T → List A → ℕ → Outcome R Q A F) → ((t : T) (bs : List A) (u : ℕ) → NeedsOnly IsOne (means t bs u)) → (p : Plan T R Q A F) → AsksOnly IsOne p → (bs : List A) (u : ℕ) → NeedsOnly IsOne (run means p bs u)
  run-needs means h (finish r) asks bs u = tt
  run-needs means h (fail f) asks bs u = tt
  run-needs means h (ask q then) asks [] u = asks.0
  run-needs means h (ask q then) asks (a ∷ bs) u = run-needs means h (then a) (asks.1 a) bs u
  run-needs means h (part t then) asks bs u = onward-needs IsOne (λ r. run means (then r)) (λ r left v. run-needs means h (then r) (asks r) left v) (means t bs u) (h t bs u)
  run-needs means h (become t) asks bs u = h t bs u

  module _ (plan : T → Plan T R Q A F) (spent : T → F) (each : (t : T) → AsksOnly IsOne (plan t)) where
    go-needs : (n : ℕ) (t : T) (bs : List A) (u : ℕ) → NeedsOnly IsOne (go plan spent n t bs u)
    go-needs zero t bs u = tt
    go-needs (suc n) t bs zero = tt
    go-needs (suc n) t bs (suc u) = run-needs (go plan spent n) (go-needs n) (plan t) (each t) bs u

    task-needs : (t : T) (bs : List A) (u : ℕ) → NeedsOnly IsOne (meaning plan spent t bs u)
    unfolding meaning
    task-needs t bs u = go-needs u t bs u

    pub needs-only : (p : Plan T R Q A F) → AsksOnly IsOne p → (bs : List A) (u : ℕ) → NeedsOnly IsOne (run (meaning plan spent) p bs u)
    needs-only = run-needs (meaning plan spent) task-needs
