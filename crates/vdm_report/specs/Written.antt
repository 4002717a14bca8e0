-- What is written of the report of an end.
use Rattle.std.specs.Prelude.{◌≡◌, ℕ, Bool, List}
use Rattle.std.specs.Io.KnownBytes.{Appends}
use Rattle.run_journal.specs.declared.entry.Entry.{Entry}
use Rattle.vdm_outside.specs.Writing.{AppendsPart}
use Rattle.report_texts.specs.Output.{output}
use Rattle.vdm_report.specs.declared.end.End.{End}
use Rattle.vdm_report.specs.declared.end.End.TheVariants.{WriteFault, OutOfMemory}
use Rattle.vdm_report.specs.Ends.{IsLastLine}
use Rattle.vdm_report.specs.Outside.{Outside, IsCalm, IsFaulty, IsUntouched}

-- the output of a journal over these names, with the log or without, and of the end that is meant
abbrev pub IsOutput : List (List ℕ) → List Entry → Bool → End → List ℕ → Type 0
IsOutput names journal log meant bytes = (last : List ℕ) × IsLastLine names meant last × (bytes ≡ output names journal log last)

-- What a call wrote of the output, and how it ends then: all of it, a part of it under a write fault, or nothing where
-- memory was wanting.
abbrev pub Wrote : List (List ℕ) → List Entry → Bool → End → Outside → End → Type 0
Wrote names journal log meant sink WriteFault =
    IsFaulty sink
    × ((bytes : List ℕ) × IsOutput names journal log meant bytes × AppendsPart sink.before sink.after bytes)
Wrote names journal log meant sink OutOfMemory = IsCalm sink × IsUntouched sink
Wrote names journal log meant sink end =
    IsCalm sink
    × (end ≡ meant)
    × ((bytes : List ℕ) × IsOutput names journal log meant bytes × Appends sink.before sink.after bytes)
