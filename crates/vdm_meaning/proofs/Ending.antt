-- Whatever a plan is answered, it comes to an end: there is a tree of answers at whose ends it needs no further one.
use Rattle.std.proofs.Common.{◌≡◌, ◌∙◌, ◌∷◌, [], List, refl, suc, zero, ℕ}
use Rattle.plans.specs.Plans.{Outcome, Plan, ask, become, fail, faults, finish, gives, go, meaning, needs, onward, part, run}
use Rattle.plans.proofs.Binding.{onward-twice}

-- ---- trees of answers

pub data Tree (A : Type 0) : Type 0 where
  over : Tree A
  answered : (A → Tree A) → Tree A

-- what answers come to needs none at the ends of the tree
abbrev pub EndsBy : {R Q A F : Type 0} → Tree A → (List A → Outcome R Q A F) → Type 0
EndsBy {Q = Q} over f = (q : Q) → f [] ≡ needs q → ⊥
EndsBy {A = A} (answered trees) f = (a : A) → EndsBy (trees a) (λ bs. f (a ∷ bs))

abbrev pub Ends : {R Q A F : Type 0} → (List A → Outcome R Q A F) → Type 0
Ends {A = A} f = (tree : Tree A) × EndsBy tree f

pub ends-same : {R Q A F : Type 0} (f g : List A → Outcome R Q A F) → ((bs : List A) → f bs ≡ g bs) → (tree : Tree A) → EndsBy tree f → EndsBy tree g
ends-same f g same over h = λ q e. h q (same [] ∙ e)
ends-same f g same (answered trees) h = λ a. ends-same (λ bs. f (a ∷ bs)) (λ bs. g (a ∷ bs)) (λ bs. same (a ∷ bs)) (trees a) (h a)

-- ---- plans

onward-gives : {R Q A F : Type 0} (o : Outcome R Q A F) → onward o gives ≡ o
onward-gives (gives r left v) = refl
onward-gives (faults f left) = refl
onward-gives (needs q) = refl

faults-end : {R Q A F : Type 0} (f : F) → Ends {R = R} {Q = Q} {A = A} (λ bs. faults f bs)
faults-end f = (over, λ q e. cc)

module _ {T R Q A F : Type 0} where
  -- each task that something follows ends, where what follows does
  abbrev TasksEnd : (T → List A → ℕ → Outcome R Q A F) → Type 0
  TasksEnd means =
      (t : T) (u : ℕ) (next : R → List A → ℕ → Outcome R Q A F) → ((r : R) (v : ℕ) → Ends (λ bs. next r bs v)) → Ends (λ bs. onward (means t bs u) next)

  run-ends : (means : T → List A → ℕ → Outcome R Q A F) → TasksEnd means → (p : Plan T R Q A F) (u : ℕ) (next : R → List A → ℕ → Outcome R Q A F) → ((r : R) (v : ℕ) → Ends (λ bs. next r bs v)) → Ends (λ bs. onward (run means p bs u) next)
  run-ends means h (finish r) u next ends = ends r u
  run-ends means h (fail f) u next ends = faults-end f
  run-ends means h (ask q then) u next ends = (
    answered (λ a. (run-ends means h (then a) u next ends).0),
    λ a. (run-ends means h (then a) u next ends).1,
  )
  run-ends means h (part t then) u next ends =
      let both : R → List A → ℕ → Outcome R Q A F = λ r left v. onward (run means (then r) left v) next in
      let found = h t u both (λ r v. run-ends means h (then r) v next ends) in (
        found.0,
        ends-same (λ bs. onward (means t bs u) both) (λ bs. onward (onward (means t bs u) (λ r. run means (then r))) next)
            (λ bs. onward-twice (λ r. run means (then r)) both next (λ r left v. refl) (means t bs u)) found.0 found.1,
      )
  run-ends means h (become t) u next ends = h t u next ends

  module _ (plan : T → Plan T R Q A F) (spent : T → F) where
    go-ends : (n : ℕ) → TasksEnd (go plan spent n)
    go-ends zero t u next ends = faults-end (spent t)
    go-ends (suc n) t zero next ends = faults-end (spent t)
    go-ends (suc n) t (suc u) next ends = run-ends (go plan spent n) (go-ends n) (plan t) u next ends

    tasks-end : TasksEnd (meaning plan spent)
    unfolding meaning
    tasks-end t u next ends = go-ends u t u next ends

    pub plan-ends : (p : Plan T R Q A F) (u : ℕ) → Ends (λ bs. run (meaning plan spent) p bs u)
    plan-ends p u =
        let found = run-ends (meaning plan spent) tasks-end p u gives (λ r v. (over, λ q e. cc)) in (
          found.0,
          ends-same (λ bs. onward (run (meaning plan spent) p bs u) gives) (λ bs. run (meaning plan spent) p bs u)
              (λ bs. onward-gives (run (meaning plan spent) p bs u)) found.0 found.1,
        )
