-- A task asks at most as many questions for each unit as a plan asks of its own.
use Rattle.std.proofs.Common.{◌≡◌, ℕ, ◌*◌, ◌<◌, List, length, Some, subst, arith}
use Rattle.plans.specs.Plans.{Plan, Outcome, needs, meaning}
use Rattle.plans.specs.Bound.{AsksAtMost}
use Rattle.plans.specs.Laws.{QuestionsAreBounded}
use Rattle.plans.specs.Steps.{KeepRules, MayHaveAsked, SoundBy}
use Rattle.plans.proofs.Free.{free, any_result, answering, answers-answering, length-answering, free-plays, free-bounded}
use Rattle.plans.proofs.Sound.{task-sound}

module _ {T R Q A F : Type 0} (plan : T → Plan T R Q A F) (spent : T → F) (k : ℕ) (asks : (t : T) → AsksAtMost k (plan t)) where
  keep : KeepRules (free (Some k)) plan spent
  keep = record { plans = λ t h fits. free-bounded (Some k) k h h (plan t) (asks t); stops = λ t h fits. tt }

  -- a task that waits was given fewer than k answers for each unit, so with k for each it needs none
  pub task-waits : (t : T) (bs : List A) (u : ℕ) (q : Q) → meaning plan spent t bs u ≡ needs q → length bs < k * u
  task-waits t bs u q is =
      let f : List A → Outcome R Q A F = λ cs. meaning plan spent t cs u in
      let sound = task-sound (free (Some k)) plan spent keep t tt tt u (answering bs) (free-plays T (Some k) f tt (answering bs)) in
      let here = subst (λ cs. SoundBy (free {T = T} (Some k)) any_result (MayHaveAsked (Some k) (Some 0) u) tt tt (answering bs) f (f cs)) (answers-answering bs) sound in
      let waits = subst (SoundBy (free {T = T} (Some k)) any_result (MayHaveAsked (Some k) (Some 0) u) tt tt (answering bs) f) is here in
      omega (arith, waits.1, length-answering bs)

pub questions-are-bounded : {T R Q A F : Type 0} → QuestionsAreBounded T R Q A F
questions-are-bounded = task-waits
