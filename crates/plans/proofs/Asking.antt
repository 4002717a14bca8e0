-- How many questions may have been asked: with one more, behind a task, and where a task is entered.
use Rattle.std.proofs.Common.{◌≡◌, ℕ, zero, suc, ◌+◌, List, [], ◌∷◌, length, Option, Some, None, arith}
use Rattle.plans.specs.Steps.{OneOf, MayHaveAsked}

-- nothing was asked, and all units are left
pub asked-none : (own n : Option ℕ) (u : ℕ) → MayHaveAsked own n u 0 u
asked-none None n u = tt
asked-none (Some k) None u = tt
asked-none (Some k) (Some n) u = omega arith

-- nothing was asked, and no unit is left
pub asked-nothing : (own n : Option ℕ) (u : ℕ) → MayHaveAsked own n u 0 0
asked-nothing None n u = tt
asked-nothing (Some k) None u = tt
asked-nothing (Some k) (Some n) u = omega arith

-- what is few for a task is few for a plan
pub asked-wider : (own n : Option ℕ) (u c v : ℕ) → MayHaveAsked own (Some 0) u c v → MayHaveAsked own n u c v
asked-wider None n u c v h = tt
asked-wider (Some k) None u c v h = tt
asked-wider (Some k) (Some n) u c v h = omega arith

-- a task with one unit more asks its plan's own questions and no others
pub asked-entering : (own : Option ℕ) (u c v : ℕ) → MayHaveAsked own own u c v → MayHaveAsked own (Some 0) (suc u) c v
asked-entering None u c v h = tt
asked-entering (Some k) u c v h = omega arith

-- so many, and one more for each item
abbrev pub rising : {X : Type 0} → List X → ℕ → ℕ
rising [] c = c
rising (x ∷ xs) c = suc (rising xs c)

rising-sum : {X : Type 0} (xs : List X) (c : ℕ) → rising xs c ≡ length xs + c
rising-sum [] c = omega arith
rising-sum (x ∷ xs) c = let rest = rising-sum xs c in omega arith

-- what was asked behind a task, with the units that it left, comes to what the task asked
pub asked-behind : {X : Type 0} (own n : Option ℕ) (xs : List X) (u v c w : ℕ) → MayHaveAsked own (Some 0) u (length xs) v → MayHaveAsked own n v c w → MayHaveAsked own n u (rising xs c) w
asked-behind None n xs u v c w h l = tt
asked-behind (Some k) None xs u v c w h l = tt
asked-behind (Some k) (Some n) xs u v c w h l = let sum = rising-sum xs c in omega arith

-- ---- one of a bound

-- with one question less of the bound, one more is few
abbrev pub IsOneMore : Option ℕ → Option ℕ → Type 0
IsOneMore m n = (own : Option ℕ) (u c v : ℕ) → MayHaveAsked own m u c v → MayHaveAsked own n u (suc c) v

some-one-more : (m : ℕ) → IsOneMore (Some m) (Some (suc m))
some-one-more m None u c v h = tt
some-one-more m (Some k) u c v h = omega arith

none-one-more : IsOneMore None None
none-one-more None u c v h = tt
none-one-more (Some k) u c v h = tt

pub one-of : (n : Option ℕ) (P : Option ℕ → Type 0) → OneOf n P → (m : Option ℕ) × P m × IsOneMore m n
one-of None P h = (None, h, none-one-more)
one-of (Some zero) P h = absurd h
one-of (Some (suc n)) P h = (Some n, h, some-one-more n)
