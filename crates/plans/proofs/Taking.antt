-- A task takes answers from the front and units, and gives none back.
use Rattle.std.proofs.Common.{ℕ, zero, suc, ◌≤◌, List, [], ◌∷◌, ◌++◌, refl, sym, ap, ◌∙◌, append_assoc, arith}
use Rattle.plans.specs.Plans.{Plan, Outcome, finish, fail, ask, part, become, gives, faults, needs, onward, run, go, meaning, IsEnd, Leaves}
use Rattle.plans.specs.Laws.{OnlyTakes}

pub end-trans : {A : Type 0} {front middle all : List A} → IsEnd front middle → IsEnd middle all → IsEnd front all
end-trans {front = front} e d = (d.0 ++ e.0, d.1 ∙ ap (λ xs. d.0 ++ xs) e.1 ∙ sym (append_assoc d.0 e.0 front))

pub Leaves-wider : {R Q A F : Type 0} {left bs : List A} {v u : ℕ} → IsEnd left bs → v ≤ u → (o : Outcome R Q A F) → Leaves left v o → Leaves bs u o
Leaves-wider d h (gives r end w) l = (end-trans l.0 d, omega (arith, l.1))
Leaves-wider d h (faults f end) l = end-trans l d
Leaves-wider d h (needs q) l = tt

pub onward-leaves : {R Q A F : Type 0} (bs : List A) (u : ℕ) (o : Outcome R Q A F) (next : R → List A → ℕ → Outcome R Q A F) → Leaves bs u o → ((r : R) (left : List A) (v : ℕ) → Leaves left v (next r left v)) → Leaves bs u (onward o next)
onward-leaves bs u (gives r left v) next l h = Leaves-wider l.0 l.1 (next r left v) (h r left v)
onward-leaves bs u (faults f left) next l h = l
onward-leaves bs u (needs q) next l h = l

pub run-leaves : {T R Q A F : Type 0} (means : T → List A → ℕ → Outcome R Q A F) → ((t : T) (bs : List A) (u : ℕ) → Leaves bs u (means t bs u)) → (p : Plan T R Q A F) (bs : List A) (u : ℕ) → Leaves bs u (run means p bs u)
run-leaves means l (finish r) bs u = (([], refl), omega arith)
run-leaves means l (fail f) bs u = ([], refl)
run-leaves means l (ask q then) [] u = tt
run-leaves means l (ask q then) (a ∷ bs) u = Leaves-wider (a ∷ [], refl) (omega arith) (run means (then a) bs u) (run-leaves means l (then a) bs u)
run-leaves means l (part t then) bs u = onward-leaves bs u (means t bs u) (λ r. run means (then r)) (l t bs u) (λ r left v. run-leaves means l (then r) left v)
run-leaves means l (become t) bs u = l t bs u

module _ {T R Q A F : Type 0} (plan : T → Plan T R Q A F) (spent : T → F) where
  pub go-leaves : (n : ℕ) (t : T) (bs : List A) (u : ℕ) → Leaves bs u (go plan spent n t bs u)
  go-leaves zero t bs u = ([], refl)
  go-leaves (suc n) t bs zero = ([], refl)
  go-leaves (suc n) t bs (suc u) = Leaves-wider ([], refl) (omega arith) (run (go plan spent n) (plan t) bs u) (run-leaves (go plan spent n) (go-leaves n) (plan t) bs u)

  pub meaning-leaves : (t : T) (bs : List A) (u : ℕ) → Leaves bs u (meaning plan spent t bs u)
  unfolding meaning
  meaning-leaves t bs u = go-leaves u t bs u

  pub task-leaves : (t : T) (bs : List A) (u : ℕ) → Leaves bs u (meaning plan spent t bs (suc u))
  unfolding meaning
  task-leaves t bs u = run-leaves (go plan spent u) (go-leaves u) (plan t) bs u

  pub plan-leaves : (p : Plan T R Q A F) (bs : List A) (u : ℕ) → Leaves bs u (run (meaning plan spent) p bs u)
  plan-leaves p bs u = run-leaves (meaning plan spent) meaning-leaves p bs u

pub only-takes : {T R Q A F : Type 0} → OnlyTakes T R Q A F
only-takes = record { tasks = task-leaves; plans = plan-leaves }
