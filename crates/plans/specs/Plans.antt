-- Plans: what a task does, step by step, and what it comes to with given answers and units.
use Rattle.std.specs.Prelude.{ℕ, zero, suc, ◌≤◌, ◌≡◌, List, [], ◌∷◌, ◌++◌}

-- T are the tasks, R the results, Q the questions, A the answers and F the faults
pub data Plan (T R Q A F : Type 0) : Type 0 where
  finish : R → Plan T R Q A F
  fail : F → Plan T R Q A F
  ask : Q → (A → Plan T R Q A F) → Plan T R Q A F
  part : T → (R → Plan T R Q A F) → Plan T R Q A F
  become : T → Plan T R Q A F

-- `gives`: the result, the answers left and the units left; `faults`: the fault and the answers left; `needs`: the question
-- with no answer left
pub data Outcome (R Q A F : Type 0) : Type 0 where
  gives : R → List A → ℕ → Outcome R Q A F
  faults : F → List A → Outcome R Q A F
  needs : Q → Outcome R Q A F

-- what follows an outcome: only a result is followed
abbrev pub onward : {R Q A F : Type 0} → Outcome R Q A F → (R → List A → ℕ → Outcome R Q A F) → Outcome R Q A F
onward (gives r bs u) next = next r bs u
onward (faults f bs) next = faults f bs
onward (needs q) next = needs q

-- what a plan comes to, where `means` says what a task comes to
abbrev pub run : {T R Q A F : Type 0}
    → (T → List A → ℕ → Outcome R Q A F)
    → Plan T R Q A F
    → List A → ℕ → Outcome R Q A F
run means (finish r) bs u = gives r bs u
run means (fail f) bs u = faults f bs
run means (ask q then) [] u = needs q
run means (ask q then) (a ∷ bs) u = run means (then a) bs u
run means (part t then) bs u = onward (means t bs u) (λ r. run means (then r))
run means (become t) bs u = means t bs u

-- at most n levels deep: each task takes a unit and follows its plan, and where no unit is left it is the fault `spent` of it
abbrev pub go : {T R Q A F : Type 0}
    → (T → Plan T R Q A F)
    → (T → F)
    → ℕ → T → List A → ℕ → Outcome R Q A F
go plan spent zero t bs u = faults (spent t) bs
go plan spent (suc n) t bs zero = faults (spent t) bs
go plan spent (suc n) t bs (suc u) = run (go plan spent n) (plan t) bs u

-- what a task comes to: as many levels as units, so the levels never matter
unfoldable pub meaning : {T R Q A F : Type 0} → (T → Plan T R Q A F) → (T → F) → T → List A → ℕ → Outcome R Q A F
meaning plan spent t bs u = go plan spent u t bs u

-- one plan, and another on its result
abbrev pub bind : {T R Q A F : Type 0} → Plan T R Q A F → (R → Plan T R Q A F) → Plan T R Q A F
bind (finish r) next = next r
bind (fail f) next = fail f
bind (ask q then) next = ask q (λ a. bind (then a) next)
bind (part t then) next = part t (λ r. bind (then r) next)
bind (become t) next = part t next

-- `left` is an end of `all`
abbrev pub IsEnd : {A : Type 0} → List A → List A → Type 0
IsEnd {A} left all = (used : List A) × (all ≡ used ++ left)

-- given these answers and units, an outcome leaves an end of the answers, and at most the units
abbrev pub Leaves : {R Q A F : Type 0} → List A → ℕ → Outcome R Q A F → Type 0
Leaves bs u (gives r left v) = IsEnd left bs × (v ≤ u)
Leaves bs u (faults f left) = IsEnd left bs
Leaves bs u (needs q) = Unit {0}

-- an outcome that was reached, and the outcome with more answers behind: the same, and the further answers are left too
abbrev pub Outlasts : {R Q A F : Type 0} → List A → Outcome R Q A F → Outcome R Q A F → Type 0
Outlasts more (gives r left v) longer = longer ≡ gives r (left ++ more) v
Outlasts more (faults f left) longer = longer ≡ faults f (left ++ more)
Outlasts more (needs q) longer = Unit {0}

-- `f` says what answers come to: an outcome that was reached with `bs` took some of them from the front, and `f` takes these
-- whatever stands behind
abbrev pub TakesFrom : {R Q A F : Type 0} → (List A → Outcome R Q A F) → List A → Outcome R Q A F → Type 0
TakesFrom {A = A} f bs (gives r left v) =
    (taken : List A) × (bs ≡ taken ++ left) × ((more : List A) → f (taken ++ more) ≡ gives r more v)
TakesFrom {A = A} f bs (faults fault left) =
    (taken : List A) × (bs ≡ taken ++ left) × ((more : List A) → f (taken ++ more) ≡ faults fault more)
TakesFrom f bs (needs q) = Unit {0}
