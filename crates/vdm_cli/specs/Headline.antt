-- What a whole call of the program keeps, clause by clause. Where a clause begins with the bytes that the source told, it
-- says nothing of a source that tells nothing, as the system's; what stands of that one the clauses `silent` say.
use Rattle.std.specs.Prelude.{◌≡◌, ℕ, ◌+◌, ◌≤◌, ◌⊎◌, Bool, false, List, [], ◌++◌, length, Option, Some, None, IsSome}
use Rattle.abstract_syntax.specs.Classes.{SpecTree}
use Rattle.abstract_syntax.specs.Expressions.{ExprTree}
use Rattle.vdm_kinds.specs.declared.spec_fault.SpecFault.{SpecFault}
use Rattle.text_phases.specs.Phases.{IsAccepted, IsChecked, spec_limit}
use Rattle.report_texts.specs.Words.{Limits, Command, check, run, IsCommand, IsNoCommand, asks_log}
use Rattle.vdm_report.specs.declared.end.End.{End}
use Rattle.vdm_report.specs.declared.end.End.TheVariants.{Checked, Refused, Usage, ReadFault, WriteFault, OutOfMemory}
use Rattle.vdm_report.specs.declared.report.Report.{Report}
use Rattle.vdm_report.specs.Ends.{status_of, finish_in}
use Rattle.vdm_report.specs.Outside.{Outside, around, IsCalm, IsFaulty, IsUntouched}
use Rattle.vdm_report.specs.Written.{Wrote}
use Rattle.vdm_cli.specs.Meant.{read_of, left_of, refusal_of, Runs, HasClasses, Means}

-- A call of the program: its words, its source and its sink before and after, how often the source was read before and
-- after, and the report.
pub record Call : Type 0 where
  pub words : List (List ℕ)
  pub source : Outside
  pub reads_before : ℕ
  pub reads_after : ℕ
  pub sink : Outside
  pub report : Report

-- the call, by what a source tells (the bytes left, its faults and its reads) and a sink (the bytes held and its faults)
abbrev pub call_of : {S K : Type 0} → (S → Option (List ℕ)) → (S → ℕ) → (S → ℕ) → (K → Option (List ℕ)) → (K → ℕ)
    → List (List ℕ) → S → S → K → K → Report → Call
call_of left faults reads held sink_faults words source source_after sink sink_after report = record {
  words = words;
  source = around left faults source source_after;
  reads_before = reads source;
  reads_after = reads source_after;
  sink = around held sink_faults sink sink_after;
  report = report;
}

-- a write fault and want of memory may stand in place of the end that is meant
abbrev pub StandsFor : End → End → Type 0
StandsFor WriteFault meant = Unit {0}
StandsFor OutOfMemory meant = Unit {0}
StandsFor end meant = end ≡ meant

-- Status: the end's.
abbrev pub KeepsStatus : Call → Type 0
KeepsStatus call = call.report.status ≡ status_of call.report.end

-- faulty words: usage, or what stands for it; nothing is read, by what is left and by the count of reads
pub record IsUsage (call : Call) : Type 0 where
  pub stands : StandsFor call.report.end Usage
  pub untouched : IsUntouched call.source
  pub unread : call.reads_after ≡ call.reads_before
  pub calm : IsCalm call.source
  pub no_log : call.report.log ≡ false

-- Words: usage exactly where they are no command. The log is asked for exactly where the command says so.
pub record KeepsWords (call : Call) : Type 0 where
  pub usage : call.report.end ≡ Usage → IsNoCommand call.words
  pub no_command : IsNoCommand call.words → IsUsage call
  pub asked : (command : Command)
      → IsCommand call.words command
      → call.report.log ≡ asks_log command

-- at most one byte past the limit was taken from the front of what was told, and each read but the last took a byte
pub record Takes (call : Call) (told : List ℕ) : Type 0 where
  pub taken : List ℕ
  pub rest : List ℕ
  pub front : told ≡ taken ++ rest
  pub left : call.source.after ≡ Some rest
  pub few : length taken ≤ spec_limit + 1
  pub turns : call.reads_after ≤ call.reads_before + length taken + 1

-- Reading: what is taken, and in how many reads. Of any source there are at most as many reads as bytes up to one past the
-- limit.
pub record KeepsReading (call : Call) : Type 0 where
  pub told : (told : List ℕ)
      → call.source.before ≡ Some told
      → Takes call told
  pub turns : call.reads_after ≤ call.reads_before + spec_limit + 1

-- the words run the expression of this text within these limits, with the log or without
abbrev pub RunsText : List (List ℕ) → List ℕ → Limits → Type 0
RunsText words text limits = (log : Bool) × IsCommand words (run text limits log)

-- the words run the expression of a text that is accepted behind this specification
abbrev pub AcceptsTexts : List (List ℕ) → List ℕ → Type 0
AcceptsTexts words spec =
    (text : List ℕ)
    × (limits : Limits)
    × (names : List (List ℕ))
    × (tree : SpecTree)
    × (expression : ExprTree)
    × RunsText words text limits
    × IsAccepted spec text names tree expression

-- the words check a specification that is accepted, and has so many classes
abbrev pub ChecksSpec : List (List ℕ) → List ℕ → ℕ → Type 0
ChecksSpec words spec classes = IsCommand words check × HasClasses spec classes

-- the words are a command that has this refusal first behind these bytes: `run` by the specification and then its text, and
-- `check` by the specification alone
abbrev pub Refuses : List (List ℕ) → List ℕ → SpecFault → Type 0
Refuses words spec fault = (command : Command) × IsCommand words command × (refusal_of command spec ≡ Some fault)

-- Texts: refused only where the source was read to its end or one byte past its limit, and there exactly with the first
-- refusal; a run ends, and classes are counted, only where the source was read to its end and what the command reads is
-- accepted, and there exactly.
pub record KeepsTexts (call : Call) : Type 0 where
  pub refused : (told : List ℕ) (fault : SpecFault)
      → call.source.before ≡ Some told
      → call.report.end ≡ Refused fault
      → (call.source.after ≡ Some (left_of told)) × Refuses call.words (read_of told) fault
  pub refuses : (told : List ℕ) (command : Command) (fault : SpecFault)
      → call.source.before ≡ Some told
      → IsCommand call.words command
      → (IsFaulty call.source → ⊥)
      → refusal_of command (read_of told) ≡ Some fault
      → StandsFor call.report.end (Refused fault)
  pub finished : (told : List ℕ)
      → call.source.before ≡ Some told
      → IsSome (finish_in call.report.end)
      → (call.source.after ≡ Some []) × AcceptsTexts call.words told
  pub finishes : (told text : List ℕ) (limits : Limits) (names : List (List ℕ)) (tree : SpecTree) (expression : ExprTree)
      → call.source.before ≡ Some told
      → RunsText call.words text limits
      → (IsFaulty call.source → ⊥)
      → IsAccepted told text names tree expression
      → IsSome (finish_in call.report.end) ⊎ ((call.report.end ≡ WriteFault) ⊎ (call.report.end ≡ OutOfMemory))
  pub checked : (told : List ℕ) (classes : ℕ)
      → call.source.before ≡ Some told
      → call.report.end ≡ Checked classes
      → (call.source.after ≡ Some []) × ChecksSpec call.words told classes
  pub checks : (told : List ℕ) (tree : SpecTree)
      → call.source.before ≡ Some told
      → IsCommand call.words check
      → (IsFaulty call.source → ⊥)
      → IsChecked told tree
      → StandsFor call.report.end (Checked (length tree.classes))

-- the journal is a run of the trees of the words' text and of this specification, within the words' limits
pub record RunsOf (call : Call) (spec : List ℕ) : Type 0 where
  pub text : List ℕ
  pub limits : Limits
  pub names : List (List ℕ)
  pub command : RunsText call.words text limits
  pub runs : Runs spec text names limits call.report.journal

-- Journal: whatever the end is, it is empty, or a run of the trees of the texts, in the order of one lane, and then the
-- words run one and the source was read to its end. Of a source that tells nothing it is a run behind some specification.
pub record KeepsJournal (call : Call) : Type 0 where
  pub told : (told : List ℕ)
      → call.source.before ≡ Some told
      → (call.report.journal ≡ []) ⊎ ((call.source.after ≡ Some []) × RunsOf call told)
  pub silent : call.source.before ≡ None
      → (call.report.journal ≡ []) ⊎ ((spec : List ℕ) × RunsOf call spec)

-- The end that is meant behind these bytes that were read; and the sink got the output: the lines of the journal where the
-- log is asked for, over the names of the texts, and the last line of that end; a part of it under a write fault, and
-- nothing where memory was wanting.
pub record IsReported (call : Call) (spec : List ℕ) : Type 0 where
  pub names : List (List ℕ)
  pub meant : End
  pub means : Means call.words call.report.log call.source spec names call.report.journal meant
  pub wrote : Wrote names call.report.journal call.report.log meant call.sink call.report.end

-- Output: that of the end that is meant. Of a source that tells nothing it is meant behind some bytes.
pub record KeepsOutput (call : Call) : Type 0 where
  pub told : (told : List ℕ)
      → call.source.before ≡ Some told
      → IsReported call (read_of told)
  pub silent : call.source.before ≡ None
      → (spec : List ℕ) × IsReported call spec

-- Causes: a read fault only where the source's count rose, a write fault only where the sink's did; where the source's
-- rose the end is a read fault, or what stands for it, and where the sink's rose it is a write fault.
pub record KeepsCauses (call : Call) : Type 0 where
  pub read_fault : call.report.end ≡ ReadFault → IsFaulty call.source
  pub write_fault : call.report.end ≡ WriteFault → IsFaulty call.sink
  pub of_source : IsCalm call.source ⊎ (IsFaulty call.source × StandsFor call.report.end ReadFault)
  pub of_sink : IsCalm call.sink ⊎ (IsFaulty call.sink × (call.report.end ≡ WriteFault))

-- What every call keeps.
pub record Keeps (call : Call) : Type 0 where
  pub status : KeepsStatus call
  pub words : KeepsWords call
  pub reading : KeepsReading call
  pub texts : KeepsTexts call
  pub journal : KeepsJournal call
  pub output : KeepsOutput call
  pub causes : KeepsCauses call
