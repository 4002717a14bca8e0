-- What a call does to a source or a sink.
use Rattle.std.specs.Prelude.{◌≡◌, ℕ, List, Option}
use Rattle.vdm_outside.specs.Counts.{Rose}

-- A source or a sink before and after a call: the bytes that it has left or holds, where it tells them, and its count
-- of faults.
pub record Outside : Type 0 where
  pub before : Option (List ℕ)
  pub after : Option (List ℕ)
  pub faults_before : ℕ
  pub faults_after : ℕ

-- what `told` and `faults` say of it before and after
abbrev pub around : {S : Type 0} → (S → Option (List ℕ)) → (S → ℕ) → S → S → Outside
around told faults before after =
    record { before = told before; after = told after; faults_before = faults before; faults_after = faults after }

-- no call of it failed
abbrev pub IsCalm : Outside → Type 0
IsCalm o = o.faults_after ≡ o.faults_before

-- a call of it failed
abbrev pub IsFaulty : Outside → Type 0
IsFaulty o = Rose o.faults_before o.faults_after

-- nothing was taken from it or put into it
abbrev pub IsUntouched : Outside → Type 0
IsUntouched o = o.after ≡ o.before
