-- Bound: how many questions a plan asks of its own.
use Rattle.std.specs.Prelude.{ℕ, zero, suc}
use Rattle.plans.specs.Plans.{Plan, finish, fail, ask, part, become}

-- each way through the plan asks at most n questions of its own
abbrev pub AsksAtMost : {T R Q A F : Type 0} → ℕ → Plan T R Q A F → Type 0
AsksAtMost n (finish r) = Unit {0}
AsksAtMost n (fail f) = Unit {0}
AsksAtMost zero (ask q then) = ⊥
AsksAtMost {A = A} (suc n) (ask q then) = (a : A) → AsksAtMost n (then a)
AsksAtMost {R = R} n (part t then) = (r : R) → AsksAtMost n (then r)
AsksAtMost n (become t) = Unit {0}
