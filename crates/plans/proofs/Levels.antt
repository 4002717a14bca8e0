-- The bound on levels never matters, and so a task is read from its plan.
use Rattle.std.proofs.Common.{◌≡◌, ℕ, zero, suc, ◌≤◌, List, [], ◌∷◌, refl, ap, ◌∙◌, arith}
use Rattle.plans.specs.Plans.{Plan, Outcome, finish, fail, ask, part, become, gives, faults, needs, onward, run, go, meaning, Leaves}
use Rattle.plans.specs.Laws.{Equation, LevelsNeverMatter}
use Rattle.plans.proofs.Taking.{go-leaves, meaning-leaves}

onward-agrees : {R Q A F : Type 0} (bs : List A) (u : ℕ) (top : ℕ) (one other : R → List A → ℕ → Outcome R Q A F) → ((r : R) (left : List A) (v : ℕ) → v ≤ top → one r left v ≡ other r left v) → (o : Outcome R Q A F) → u ≤ top → Leaves bs u o → onward o one ≡ onward o other
onward-agrees bs u top one other same (gives r left v) h l = same r left v (omega (arith, l.1))
onward-agrees bs u top one other same (faults f left) h l = refl
onward-agrees bs u top one other same (needs q) h l = refl

module _ {T R Q A F : Type 0} (one other : T → List A → ℕ → Outcome R Q A F) (top : ℕ) (same : (t : T) (bs : List A) (u : ℕ) → u ≤ top → one t bs u ≡ other t bs u) (l : (t : T) (bs : List A) (u : ℕ) → Leaves bs u (other t bs u)) where
  -- two meanings that agree up to some number of units agree on plans up to there
  pub run-agrees : (p : Plan T R Q A F) (bs : List A) (u : ℕ) → u ≤ top → run one p bs u ≡ run other p bs u
  run-agrees (finish r) bs u h = refl
  run-agrees (fail f) bs u h = refl
  run-agrees (ask q then) [] u h = refl
  run-agrees (ask q then) (a ∷ bs) u h = run-agrees (then a) bs u h
  run-agrees (part t then) bs u h = ap (λ o. onward o (λ r. run one (then r))) (same t bs u h) ∙ onward-agrees bs u top (λ r. run one (then r)) (λ r. run other (then r)) (λ r left v k. run-agrees (then r) left v k) (other t bs u) h (l t bs u)
  run-agrees (become t) bs u h = same t bs u h

module _ {T R Q A F : Type 0} (plan : T → Plan T R Q A F) (spent : T → F) where
  pub go-levels : (n m : ℕ) (t : T) (bs : List A) (u : ℕ) → u ≤ n → u ≤ m → go plan spent n t bs u ≡ go plan spent m t bs u
  go-levels zero zero t bs u h k = refl
  go-levels zero (suc m) t bs zero h k = refl
  go-levels zero (suc m) t bs (suc u) h k = absurd (omega arith)
  go-levels (suc n) zero t bs zero h k = refl
  go-levels (suc n) zero t bs (suc u) h k = absurd (omega arith)
  go-levels (suc n) (suc m) t bs zero h k = refl
  go-levels (suc n) (suc m) t bs (suc u) h k = run-agrees (go plan spent n) (go plan spent m) u (λ s cs v w. go-levels n m s cs v (omega arith) (omega arith)) (go-leaves plan spent m) (plan t) bs u (omega arith)

  pub levels : (n : ℕ) (t : T) (bs : List A) (u : ℕ) → u ≤ n → go plan spent n t bs u ≡ meaning plan spent t bs u
  unfolding meaning
  levels n t bs u h = go-levels n u t bs u h (omega arith)

  pub meaning-suc : (t : T) (bs : List A) (u : ℕ) → meaning plan spent t bs (suc u) ≡ run (meaning plan spent) (plan t) bs u
  unfolding meaning
  meaning-suc t bs u = run-agrees (go plan spent u) (meaning plan spent) u (λ s cs v w. levels u s cs v w) (meaning-leaves plan spent) (plan t) bs u (omega arith)

  pub meaning-zero : (t : T) (bs : List A) → meaning plan spent t bs zero ≡ faults (spent t) bs
  unfolding meaning
  meaning-zero t bs = refl

pub equation : {T R Q A F : Type 0} → Equation T R Q A F
equation = record { spends = meaning-zero; follows = meaning-suc }

pub levels-never-matter : {T R Q A F : Type 0} → LevelsNeverMatter T R Q A F
levels-never-matter = levels
