-- What is played for an outcome is played for its parts.
use Rattle.std.proofs.Common.{◌≡◌, ℕ, List, [], ◌∷◌, ◌++◌, refl, ap, ◌∙◌}
use Rattle.plans.specs.Plans.{Outcome, onward}
use Rattle.plans.specs.Steps.{Rules, Step, answers, last, Plays}

-- steps answer what the first of them and then the others answer
pub answers-behind : {A H : Type 0} (taken more : List (Step A H)) → answers (taken ++ more) ≡ answers taken ++ answers more
answers-behind [] more = refl
answers-behind (step ∷ taken) more = ap (λ bs. step.0 ∷ bs) (answers-behind taken more)

module _ {T R Q A F H : Type 0} (rules : Rules T R Q A F H) where
  -- what is played for an outcome and what follows it is played for the outcome
  pub plays-first : (f : List A → Outcome R Q A F) (next : R → List A → ℕ → Outcome R Q A F) (h : H) (steps : List (Step A H)) → Plays rules (λ bs. onward (f bs) next) h steps → Plays rules f h steps
  plays-first f next h [] plays = tt
  plays-first f next h (step ∷ steps) plays = (λ q e. plays.0 q (ap (λ o. onward o next) e), plays-first (λ bs. f (step.0 ∷ bs)) next step.1 steps plays.1)

  -- what is played for an outcome is played, behind the first steps, for what they leave of it
  pub plays-behind : (f : List A → Outcome R Q A F) (h : H) (taken more : List (Step A H)) → Plays rules f h (taken ++ more) → Plays rules (λ bs. f (answers taken ++ bs)) (last h taken) more
  plays-behind f h [] more plays = plays
  plays-behind f h (step ∷ taken) more plays = plays-behind (λ bs. f (step.0 ∷ bs)) step.1 taken more plays.1

  -- what is played for an outcome is played for each that is always the same
  pub plays-same : (f g : List A → Outcome R Q A F) → ((bs : List A) → f bs ≡ g bs) → (h : H) (steps : List (Step A H)) → Plays rules f h steps → Plays rules g h steps
  plays-same f g same h [] plays = tt
  plays-same f g same h (step ∷ steps) plays = (λ q e. plays.0 q (same [] ∙ e), plays-same (λ bs. f (step.0 ∷ bs)) (λ bs. g (step.0 ∷ bs)) (λ bs. same (step.0 ∷ bs)) step.1 steps plays.1)
