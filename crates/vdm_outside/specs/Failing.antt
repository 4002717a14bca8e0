-- Calls that are to fail, by their numbers.
use Rattle.std.specs.Prelude.{ℕ, List, IsTrue, ◌==◌}
use Rattle.std.specs.List.{list_any}
use Rattle.vdm_outside.specs.Counts.{raised}

-- after so many calls, the number of the next is in the list
abbrev pub IsNextToFail : List ℕ → ℕ → Type 0
IsNextToFail failing calls = IsTrue (list_any (λ number. number == raised calls) failing)
