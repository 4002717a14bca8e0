-- Steps: what follows a plan where each answer leads from one history to another, by rules that say which questions may be
-- asked and how many, which tasks begun, which results left and which faults failed with.
use Rattle.std.specs.Prelude.{ℕ, zero, suc, ◌+◌, ◌*◌, ◌≤◌, ◌≡◌, List, [], ◌∷◌, ◌++◌, length, Option, Some, None}
use Rattle.plans.specs.Plans.{Plan, finish, fail, ask, part, become, Outcome, gives, faults, needs}

-- the rules of histories H, for tasks T, results R, questions Q, answers A and faults F
pub record Rules (T R Q A F H : Type 0) : Type 1 where
  -- the answer to the question leads from the history to another
  pub Takes : H → Q → A → H → Type 0
  -- the question may be asked behind the history
  pub Ready : H → Q → Type 0
  -- the task may be begun behind the history
  pub Fits : H → T → Type 0
  -- a task that is done leads from the history to another
  pub Within : H → H → Type 0
  -- the result that the task may leave behind the history
  pub Leaves : T → H → R → Type 0
  -- the fault may be failed with behind the history
  pub Fails : H → F → Type 0
  -- at most so many questions of its own may a task ask, or any number of them
  pub own : Option ℕ

-- an answer, and the history behind it
abbrev pub Step : Type 0 → Type 0 → Type 0
Step A H = A × H

-- what the steps answered
abbrev pub answers : {A H : Type 0} → List (Step A H) → List A
answers [] = []
answers (step ∷ steps) = step.0 ∷ answers steps

-- the history behind the steps
abbrev pub last : {A H : Type 0} → H → List (Step A H) → H
last h [] = h
last h (step ∷ steps) = last step.1 steps

-- the steps answer what an outcome needs, one after another
abbrev pub Plays : {T R Q A F H : Type 0}
    → Rules T R Q A F H
    → (List A → Outcome R Q A F)
    → H → List (Step A H) → Type 0
Plays rules f h [] = Unit {0}
Plays {Q = Q} rules f h (step ∷ steps) =
    ((q : Q) → f [] ≡ needs q → rules.Takes h q step.0 step.1) × Plays rules (λ bs. f (step.0 ∷ bs)) step.1 steps

-- one question of a bound may be asked, and P holds of what is left of the bound
abbrev pub OneOf : Option ℕ → (Option ℕ → Type 0) → Type 0
OneOf None P = P None
OneOf (Some zero) P = ⊥
OneOf (Some (suc n)) P = P (Some n)

-- A plan keeps the rules: it asks only what may be asked and at most n questions of its own, begins only what may be begun,
-- leaves what may be left, and fails with what may be failed with. `first` is the history in which it began.
abbrev pub Safe : {T R Q A F H : Type 0}
    → Rules T R Q A F H
    → (H → R → Type 0)
    → Option ℕ
    → H → H → Plan T R Q A F → Type 0
Safe rules left n first h (finish r) = rules.Within first h × left h r
Safe rules left n first h (fail f) = rules.Fails h f
Safe {A = A} {H = H} rules left n first h (ask q then) =
    rules.Ready h q × OneOf n (λ m. (a : A) (k : H) → rules.Takes h q a k → Safe rules left m first k (then a))
Safe {R = R} {H = H} rules left n first h (part t then) =
    rules.Fits h t × ((k : H) (r : R) → rules.Within h k → rules.Leaves t k r → Safe rules left n first k (then r))
Safe {R = R} {H = H} rules left n first h (become t) =
    rules.Fits h t × ((k : H) (r : R) → rules.Within h k → rules.Leaves t k r → rules.Within first k × left k r)

-- each task that may be begun has a plan that keeps the rules, and may fail where it finds no unit
pub record KeepRules {T R Q A F H : Type 0}
    (rules : Rules T R Q A F H) (plan : T → Plan T R Q A F) (spent : T → F) : Type 0 where
  pub plans : (t : T) (h : H) → rules.Fits h t → Safe rules (rules.Leaves t) rules.own h h (plan t)
  pub stops : (t : T) (h : H) → rules.Fits h t → rules.Fails h (spent t)

-- of n questions of a plan's own, and k of each task's own, so many may be asked of u units with v of them left
abbrev pub MayHaveAsked : Option ℕ → Option ℕ → ℕ → ℕ → ℕ → Type 0
MayHaveAsked (Some k) (Some n) u asked v = asked + k * v ≤ n + k * u
MayHaveAsked _ _ u asked v = Unit {0}

-- an outcome that the first of the steps led to, whatever is answered behind them
pub record Reached {R Q A F H : Type 0}
    (steps : List (Step A H)) (f : List A → Outcome R Q A F) (o : List A → Outcome R Q A F) : Type 0 where
  pub taken : List (Step A H)
  pub more : List (Step A H)
  pub all : steps ≡ taken ++ more
  pub reached : (bs : List A) → f (answers taken ++ bs) ≡ o bs

-- a result that may be left, with the steps that were taken for it; `Few` says how many these may be with so many units left
pub record Earned {T R Q A F H : Type 0}
    (rules : Rules T R Q A F H) (left : H → R → Type 0) (Few : ℕ → ℕ → Type 0) (first h : H)
    (steps : List (Step A H)) (f : List A → Outcome R Q A F) (r : R) (v : ℕ) : Type 0 where
  pub by : Reached steps f (λ bs. gives r bs v)
  pub within : rules.Within first (last h by.taken)
  pub leaves : left (last h by.taken) r
  pub few : Few (length by.taken) v

-- a fault that may be failed with, likewise
pub record Failed {T R Q A F H : Type 0}
    (rules : Rules T R Q A F H) (Few : ℕ → ℕ → Type 0) (h : H)
    (steps : List (Step A H)) (f : List A → Outcome R Q A F) (fault : F) : Type 0 where
  pub by : Reached steps f (λ bs. faults fault bs)
  pub fails : rules.Fails (last h by.taken) fault
  pub few : Few (length by.taken) 0

-- what an outcome is after steps: a result that was earned, a fault that may be failed with, or one question more that may be
-- asked
abbrev pub SoundBy : {T R Q A F H : Type 0}
    → Rules T R Q A F H
    → (H → R → Type 0)
    → (ℕ → ℕ → Type 0)
    → H → H → List (Step A H)
    → (List A → Outcome R Q A F)
    → Outcome R Q A F → Type 0
SoundBy rules left Few first h steps f (gives r rest v) = Earned rules left Few first h steps f r v
SoundBy rules left Few first h steps f (faults fault rest) = Failed rules Few h steps f fault
SoundBy rules left Few first h steps f (needs q) = rules.Ready (last h steps) q × Few (suc (length steps)) 0

-- what answers come to with u units is sound after the steps that gave them, where n questions may be asked beside those of
-- tasks
abbrev pub Sound : {T R Q A F H : Type 0}
    → Rules T R Q A F H
    → (H → R → Type 0)
    → Option ℕ
    → H → H → ℕ → List (Step A H)
    → (List A → Outcome R Q A F) → Type 0
Sound rules left n first h u steps f =
    SoundBy rules left (MayHaveAsked rules.own n u) first h steps f (f (answers steps))
