-- What writing all of some bytes does to a sink.
use Rattle.std.specs.Prelude.{◌<◌, ℕ, List, length, take, OnOk, OnErr, Option, Result}
use Rattle.std.specs.Io.KnownBytes.{Appends}
use Rattle.vdm_outside.specs.Counts.{HasCause}

-- some of these bytes were added, from the front, and not all
abbrev pub AppendsPart : Option (List ℕ) → Option (List ℕ) → List ℕ → Type 0
AppendsPart before now bytes = (n : ℕ) × (n < length bytes) × Appends before now (take n bytes)

-- a sink, before and after the bytes were written
pub record WritesWhole {K T E : Type 0} (held : K → Option (List ℕ)) (faults : K → ℕ) (before now : K) (bytes : List ℕ)
    (result : Result T E) : Type 0 where
  pub whole : OnOk result (Appends (held before) (held now) bytes)
  pub part : OnErr result (AppendsPart (held before) (held now) bytes)
  pub cause : HasCause (faults before) (faults now) result
