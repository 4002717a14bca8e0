-- A plan with another on its result is followed as the one and then the other, and keeps the rules where both do.
use Rattle.std.proofs.Common.{◌≡◌, ℕ, zero, suc, List, [], ◌∷◌, Option, Some, None, refl}
use Rattle.plans.specs.Plans.{Plan, Outcome, finish, fail, ask, part, become, gives, faults, needs, onward, run, bind}
use Rattle.plans.specs.Laws.{BindFollows}
use Rattle.plans.specs.Steps.{Rules, OneOf, Safe}

-- what follows in two steps follows in one
pub onward-twice : {R Q A F : Type 0} (one both next : R → List A → ℕ → Outcome R Q A F) → ((r : R) (left : List A) (v : ℕ) → both r left v ≡ onward (one r left v) next) → (o : Outcome R Q A F) → onward o both ≡ onward (onward o one) next
onward-twice one both next h (gives r left v) = h r left v
onward-twice one both next h (faults f left) = refl
onward-twice one both next h (needs q) = refl

pub run-bind : {T R Q A F : Type 0} (means : T → List A → ℕ → Outcome R Q A F) (p : Plan T R Q A F) (next : R → Plan T R Q A F) (bs : List A) (u : ℕ) → run means (bind p next) bs u ≡ onward (run means p bs u) (λ r. run means (next r))
run-bind means (finish r) next bs u = refl
run-bind means (fail f) next bs u = refl
run-bind means (ask q then) next [] u = refl
run-bind means (ask q then) next (a ∷ bs) u = run-bind means (then a) next bs u
run-bind means (part t then) next bs u = onward-twice (λ r. run means (then r)) (λ r. run means (bind (then r) next)) (λ r. run means (next r)) (λ r left v. run-bind means (then r) next left v) (means t bs u)
run-bind means (become t) next bs u = refl

pub bind-follows : {T R Q A F : Type 0} → BindFollows T R Q A F
bind-follows = run-bind

-- ---- rules

-- what one question of a bound leaves room for, it leaves room for what follows from that
one-as : (n : Option ℕ) (P Q : Option ℕ → Type 0) → ((m : Option ℕ) → P m → Q m) → OneOf n P → OneOf n Q
one-as None P Q wider h = wider None h
one-as (Some zero) P Q wider h = h
one-as (Some (suc n)) P Q wider h = wider (Some n) h

-- the one plan began behind `begun`, and what follows it, whatever it asked, is safe for a plan that began behind `first`
module _ {T R Q A F H : Type 0} (rules : Rules T R Q A F H) (middle left : H → R → Type 0) (begun first : H) (next : R → Plan T R Q A F) (goes_on : (m : Option ℕ) (k : H) (r : R) → rules.Within begun k → middle k r → Safe rules left m first k (next r)) where
  pub bind-safe : (p : Plan T R Q A F) (n : Option ℕ) (h : H) → Safe rules middle n begun h p → Safe rules left n first h (bind p next)
  bind-safe (finish r) n h safe = goes_on n h r safe.0 safe.1
  bind-safe (fail f) n h safe = safe
  bind-safe (ask q then) n h safe = (
    safe.0,
    one-as n (λ m. (a : A) (k : H) → rules.Takes h q a k → Safe rules middle m begun k (then a)) (λ m. (a : A) (k : H) → rules.Takes h q a k → Safe rules left m first k (bind (then a) next))
        (λ m each a k takes. bind-safe (then a) m k (each a k takes)) safe.1,
  )
  bind-safe (part t then) n h safe = (safe.0, λ k r within leaves. bind-safe (then r) n k (safe.1 k r within leaves))
  bind-safe (become t) n h safe = (safe.0, λ k r within leaves. let ends = safe.1 k r within leaves in goes_on n k r ends.0 ends.1)
