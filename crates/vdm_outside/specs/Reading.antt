-- What reading to a limit does to a source, and what it gives.
use Rattle.std.specs.Prelude.{◌≡◌, ◌≤◌, ◌+◌, ℕ, List, length, take, drop, Some, IfOk, Vec, vec_len, Option, Result}
use Rattle.std.specs.Option.{ForSome}
use Rattle.std.specs.Io.KnownBytes.{Consumes, IsAtEnd}
use Rattle.std.specs.declared.alloc.Global.{Global}
use Rattle.vdm_kinds.specs.declared.halt.Halt.{Halt}
use Rattle.vdm_outside.specs.Counts.{HaltHasCause}
use Rattle.vdm_outside.specs.declared.failed.Failed.{Failed}

-- these are the first n of the bytes that were told, and the rest of them is left
abbrev pub AreFirst : ℕ → Option (List ℕ) → Option (List ℕ) → List ℕ → Type 0
AreFirst n before now bytes = ForSome before (λ told. (bytes ≡ take n told) × (now ≡ Some (drop n told)))

-- Some bytes were taken from the front of what was told, n at most, and each read but the last took one: there are at most
-- one more reads than bytes.
pub record TakesAtMost (n : ℕ) (before now : Option (List ℕ)) (reads_before reads_now : ℕ) : Type 0 where
  pub bytes : List ℕ
  pub few : length bytes ≤ n
  pub front : Consumes before now bytes
  pub turns : reads_now ≤ reads_before + length bytes + 1

-- a source, before and after it was read to its end or to one byte past the limit
pub record ReadsLimited {S : Type 0} (left : S → Option (List ℕ)) (faults reads : S → ℕ) (limit : ℕ) (before now : S)
    (result : Result (Vec ℕ Global) (Halt Failed)) : Type 0 where
  pub bytes : IfOk result (λ v. AreFirst (limit + 1) (left before) (left now) v.items)
  pub most : IfOk result (λ v. vec_len v ≤ limit + 1)
  pub ended : IfOk result (λ v. vec_len v ≤ limit → IsAtEnd (left now))
  pub taken : TakesAtMost (limit + 1) (left before) (left now) (reads before) (reads now)
  -- at most one read more than bytes came
  pub turns : IfOk result (λ v. reads now ≤ reads before + vec_len v + 1)
  pub budget : reads now ≤ reads before + limit + 1
  pub cause : HaltHasCause (faults before) (faults now) result
