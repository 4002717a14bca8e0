-- A row of a table of faults.
use Rattle.std.specs.Prelude.{ℕ, List}

-- the number and the name that reports print
pub record FaultRow : Type 0 where
  pub number : ℕ
  pub name : List ℕ

abbrev pub row : ℕ → List ℕ → FaultRow
row number name = record { number = number; name = name }
