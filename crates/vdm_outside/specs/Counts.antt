-- Counts of 64 bits, and failures that a count of faults accounts for.
use Rattle.std.specs.Prelude.{◌≡◌, ◌≤◌, ◌+◌, ◌-◌, ◌^◌, ℕ, min, OnOk, OnErr, IfErr, Result}
use Rattle.vdm_kinds.specs.declared.halt.Halt.{Halt}
use Rattle.vdm_kinds.specs.declared.halt.Halt.TheVariants.{Of, OutOfMemory}

-- a count after one more, which stands still at its type's end
abbrev pub raised : ℕ → ℕ
raised count = min (count + 1) (2 ^ 64 - 1)

-- the count rose by one at least; of a count that stands at its end this says nothing
abbrev pub Rose : ℕ → ℕ → Type 0
Rose before now = raised before ≤ now

-- a call failed exactly where the count rose
pub record HasCause {T E : Type 0} (before now : ℕ) (result : Result T E) : Type 0 where
  pub later : before ≤ now
  pub failed : OnErr result (Rose before now)
  pub calm : OnOk result (now ≡ before)

-- the fault of a halt goes with a count that rose, and want of memory with one that stands
abbrev pub AccountsFor : {F : Type 0} → ℕ → ℕ → Halt F → Type 0
AccountsFor before now (Of fault) = Rose before now
AccountsFor before now OutOfMemory = now ≡ before

-- a call that may want memory halted with its fault exactly where the count rose
pub record HaltHasCause {T F : Type 0} (before now : ℕ) (result : Result T (Halt F)) : Type 0 where
  pub later : before ≤ now
  pub halted : IfErr result (λ halt. AccountsFor before now halt)
  pub calm : OnOk result (now ≡ before)
