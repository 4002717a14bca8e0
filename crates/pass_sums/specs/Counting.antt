-- Sums over lists, and the numbers that equal a number or are below it.
use Rattle.std.specs.Prelude.{ℕ, ◌+◌, List, [], ◌∷◌, if◌then◌else◌, ◌==◌, nat_lt}

-- f of each element, added up
abbrev pub total : {A : Type 0} → (A → ℕ) → List A → ℕ
total f [] = 0
total f (x ∷ xs) = f x + total f xs

-- 1 where the numbers are equal, and else 0
abbrev pub same : ℕ → ℕ → ℕ
same x y = if x == y then 1 else 0

-- 1 where x is below n, and else 0
abbrev pub below : ℕ → ℕ → ℕ
below n x = if nat_lt x n then 1 else 0
