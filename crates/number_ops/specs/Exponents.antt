-- Exponents that are small enough for the machine, and give the same powers or none.
use Rattle.std.specs.Prelude.{ℕ, ◌+◌, ◌%◌, nat_le, if◌then◌else◌}

-- above 128 only whether it is odd
abbrev pub reduced : ℕ → ℕ
reduced n = if nat_le n 128 then n else 128 + n % 2
