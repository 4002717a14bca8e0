-- Lists of drawn numbers.
use Rattle.std.specs.Prelude.{ℕ, ◌<◌, List, All, AllPairs}
use Rattle.pass_sums.specs.Counting.{total, same}

-- how often the number stands in the list
abbrev pub times : ℕ → List ℕ → ℕ
times x numbers = total (same x) numbers

-- every number of the list is below n
abbrev pub AllBelow : ℕ → List ℕ → Type 0
AllBelow n numbers = All (λ x. x < n) numbers

-- each number is below the later ones
abbrev pub IsRising : List ℕ → Type 0
IsRising numbers = AllPairs (λ x y. x < y) numbers
