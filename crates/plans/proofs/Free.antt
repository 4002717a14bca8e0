-- Rules that allow everything but a number of questions: what answers come to under them is sound, whatever they are.
use Rattle.std.proofs.Common.{◌≡◌, ℕ, zero, suc, List, [], ◌∷◌, length, Option, Some, None, refl, ap}
use Rattle.plans.specs.Plans.{Plan, Outcome, finish, fail, ask, part, become}
use Rattle.plans.specs.Bound.{AsksAtMost}
use Rattle.plans.specs.Steps.{Rules, Step, answers, Plays, Safe}

-- the one history of these rules
abbrev pub Nothing : Type 0
Nothing = Unit {0}

abbrev pub free : {T R Q A F : Type 0} → Option ℕ → Rules T R Q A F Nothing
free own = record {
  Takes = λ h q a k. Unit {0};
  Ready = λ h q. Unit {0};
  Fits = λ h t. Unit {0};
  Within = λ h k. Unit {0};
  Leaves = λ t h r. Unit {0};
  Fails = λ h f. Unit {0};
  own = own;
}

abbrev pub any_result : {R : Type 0} → Nothing → R → Type 0
any_result h r = Unit {0}

-- the answers as steps
abbrev pub answering : {A : Type 0} → List A → List (Step A Nothing)
answering [] = []
answering (a ∷ bs) = (a, tt) ∷ answering bs

pub answers-answering : {A : Type 0} (bs : List A) → answers (answering bs) ≡ bs
answers-answering [] = refl
answers-answering (a ∷ bs) = ap (λ cs. a ∷ cs) (answers-answering bs)

pub length-answering : {A : Type 0} (bs : List A) → length (answering bs) ≡ length bs
length-answering [] = refl
length-answering (a ∷ bs) = ap (λ n. suc n) (length-answering bs)

pub free-plays : (T : Type 0) {R Q A F : Type 0} (own : Option ℕ) (f : List A → Outcome R Q A F) (h : Nothing) (steps : List (Step A Nothing)) → Plays (free {T = T} own) f h steps
free-plays T own f h [] = tt
free-plays T own f h (step ∷ steps) = (λ q e. tt, free-plays T own (λ bs. f (step.0 ∷ bs)) step.1 steps)

module _ {T R Q A F : Type 0} (own : Option ℕ) where
  pub free-safe : (first h : Nothing) (p : Plan T R Q A F) → Safe (free own) any_result None first h p
  free-safe first h (finish r) = (tt, tt)
  free-safe first h (fail f) = tt
  free-safe first h (ask q then) = (tt, λ a k takes. free-safe first k (then a))
  free-safe first h (part t then) = (tt, λ k r within leaves. free-safe first k (then r))
  free-safe first h (become t) = (tt, λ k r within leaves. (tt, tt))

  pub free-bounded : (n : ℕ) (first h : Nothing) (p : Plan T R Q A F) → AsksAtMost n p → Safe (free own) any_result (Some n) first h p
  free-bounded n first h (finish r) asks = (tt, tt)
  free-bounded n first h (fail f) asks = tt
  free-bounded zero first h (ask q then) asks = absurd asks
  free-bounded (suc n) first h (ask q then) asks = (tt, λ a k takes. free-bounded n first k (then a) (asks a))
  free-bounded n first h (part t then) asks = (tt, λ k r within leaves. free-bounded n first k (then r) (asks r))
  free-bounded n first h (become t) asks = (tt, λ k r within leaves. (tt, tt))
