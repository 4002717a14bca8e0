-- When two calls are alike.
use Rattle.std.specs.Prelude.{ℕ, Bool, ◌&&◌, nat_eq}

-- names and numbers of parameters
abbrev pub is_same_call : ℕ × ℕ → ℕ × ℕ → Bool
is_same_call a b = nat_eq a.0 b.0 && nat_eq a.1 b.1
