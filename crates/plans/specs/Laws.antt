-- The laws of plans, for each type of tasks, results, questions, answers and faults.
use Rattle.std.specs.Prelude.{ℕ, zero, suc, ◌*◌, ◌<◌, ◌≤◌, List, length, ◌++◌, ◌≡◌, Option}
use Rattle.plans.specs.Plans.{Plan, Outcome, faults, needs, onward, run, go, meaning, bind, Leaves, Outlasts, TakesFrom}
use Rattle.plans.specs.Bound.{AsksAtMost}
use Rattle.plans.specs.Steps.{Rules, Step, Plays, Safe, KeepRules, Sound}

-- with no unit a task is its fault; else it takes one and follows its plan, in which each part means what it means alone
pub record Equation (T R Q A F : Type 0) : Type 0 where
  pub spends : (plan : T → Plan T R Q A F) (spent : T → F) (t : T) (bs : List A)
      → meaning plan spent t bs zero ≡ faults (spent t) bs
  pub follows : (plan : T → Plan T R Q A F) (spent : T → F) (t : T) (bs : List A) (u : ℕ)
      → meaning plan spent t bs (suc u) ≡ run (meaning plan spent) (plan t) bs u

-- as many levels as units are as good as any more
abbrev pub LevelsNeverMatter : (T R Q A F : Type 0) → Type 0
LevelsNeverMatter T R Q A F =
    (plan : T → Plan T R Q A F) (spent : T → F) (n : ℕ) (t : T) (bs : List A) (u : ℕ)
    → u ≤ n
    → go plan spent n t bs u ≡ meaning plan spent t bs u

-- a task that ends takes a unit at least, a plan may take none, and neither gives back what it took
pub record OnlyTakes (T R Q A F : Type 0) : Type 0 where
  pub tasks : (plan : T → Plan T R Q A F) (spent : T → F) (t : T) (bs : List A) (u : ℕ)
      → Leaves bs u (meaning plan spent t bs (suc u))
  pub plans : (plan : T → Plan T R Q A F) (spent : T → F) (p : Plan T R Q A F) (bs : List A) (u : ℕ)
      → Leaves bs u (run (meaning plan spent) p bs u)

-- further answers change no outcome that was reached, and what waits with them waited without them
pub record AnswersOnlyAdd (T R Q A F : Type 0) : Type 0 where
  pub reached : (plan : T → Plan T R Q A F) (spent : T → F) (t : T) (bs more : List A) (u : ℕ)
      → Outlasts more (meaning plan spent t bs u) (meaning plan spent t (bs ++ more) u)
  pub waits : (plan : T → Plan T R Q A F) (spent : T → F) (t : T) (bs more : List A) (u : ℕ) (q : Q)
      → meaning plan spent t (bs ++ more) u ≡ needs q
      → (earlier : Q) × (meaning plan spent t bs u ≡ needs earlier)

-- a plan with another on its result is followed as the one and then the other
abbrev pub BindFollows : (T R Q A F : Type 0) → Type 0
BindFollows T R Q A F =
    (means : T → List A → ℕ → Outcome R Q A F) (p : Plan T R Q A F) (next : R → Plan T R Q A F) (bs : List A) (u : ℕ)
    → run means (bind p next) bs u ≡ onward (run means p bs u) (λ r. run means (next r))

-- an outcome that was reached took some answers from the front, and takes them whatever stands behind
abbrev pub AnswersAreTakenFromTheFront : (T R Q A F : Type 0) → Type 0
AnswersAreTakenFromTheFront T R Q A F =
    (plan : T → Plan T R Q A F) (spent : T → F) (p : Plan T R Q A F) (bs : List A) (u : ℕ)
    → TakesFrom (λ cs. run (meaning plan spent) p cs u) bs (run (meaning plan spent) p bs u)

-- where each plan asks at most k questions of its own, a task that waits was given fewer than k answers for each unit, so with
-- k for each it needs none
abbrev pub QuestionsAreBounded : (T R Q A F : Type 0) → Type 0
QuestionsAreBounded T R Q A F =
    (plan : T → Plan T R Q A F) (spent : T → F) (k : ℕ)
    → ((t : T) → AsksAtMost k (plan t))
    → (t : T) (bs : List A) (u : ℕ) (q : Q)
    → meaning plan spent t bs u ≡ needs q
    → length bs < k * u

-- where the tasks keep the rules, each plan that keeps them is sound: a result was earned, a fault may be failed with, and a
-- question may be asked, and is one of few
abbrev pub StepsAreSound : {T R Q A F H : Type 0} → Rules T R Q A F H → (H → R → Type 0) → Type 0
StepsAreSound {T} {R} {Q} {A} {F} {H} rules left =
    (plan : T → Plan T R Q A F) (spent : T → F)
    → KeepRules rules plan spent
    → (n : Option ℕ) (p : Plan T R Q A F) (first h : H)
    → Safe rules left n first h p
    → (u : ℕ) (steps : List (Step A H))
    → Plays rules (λ bs. run (meaning plan spent) p bs u) h steps
    → Sound rules left n first h u steps (λ bs. run (meaning plan spent) p bs u)
