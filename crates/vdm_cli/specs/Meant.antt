-- The end that a call means, where its report is left aside, each with its cause.
use Rattle.std.specs.Prelude.{◌≡◌, ℕ, ◌+◌, ◌≤◌, ◌⊎◌, Bool, false, List, [], length, take, drop, Option, Some}
use Rattle.abstract_syntax.specs.Classes.{SpecTree}
use Rattle.abstract_syntax.specs.Expressions.{ExprTree}
use Rattle.run_journal.specs.declared.entry.Entry.{Entry}
use Rattle.vdm_kinds.specs.declared.spec_fault.SpecFault.{SpecFault}
use Rattle.text_phases.specs.Phases.{IsAccepted, IsChecked, first_refusal, spec_refusal, spec_limit}
use Rattle.vdm_legal.specs.Order.{IsInOrder}
use Rattle.vdm_legal.specs.Finishes.{Finish, ended, failed, finish_of}
use Rattle.vdm_meaning.specs.Runs.{IsRun}
use Rattle.vdm_outside.specs.Reading.{AreFirst, TakesAtMost}
use Rattle.report_texts.specs.Words.{Limits, Command, check, run, IsCommand, IsNoCommand, asks_log}
use Rattle.vdm_report.specs.Outside.{Outside, IsCalm, IsFaulty, IsUntouched}
use Rattle.vdm_report.specs.Written.{Wrote}
use Rattle.vdm_report.specs.declared.end.End.{End}
use Rattle.vdm_report.specs.declared.end.End.TheVariants.{Ended, Checked, Refused, Usage, Failed, ReadFault, OutOfMemory}
use Rattle.vdm_report.specs.declared.report.Report.{Report}

-- what is read of the bytes that a source told, all of them or one past the limit, and what is left then
abbrev pub read_of : List ℕ → List ℕ
read_of told = take (spec_limit + 1) told

abbrev pub left_of : List ℕ → List ℕ
left_of told = drop (spec_limit + 1) told

-- These bytes were read. Of a source that tells nothing they may be any.
abbrev pub WasRead : Outside → List ℕ → Type 0
WasRead source bytes = AreFirst (spec_limit + 1) source.before source.after bytes

-- reading takes at most one byte past the limit, in at most as many reads, each of which but the last takes a byte
pub record ReadsSpec {S : Type 0} (left : S → Option (List ℕ)) (reads : S → ℕ) (before after : S) : Type 0 where
  pub taken : TakesAtMost (spec_limit + 1) (left before) (left after) (reads before) (reads after)
  pub turns : reads after ≤ reads before + spec_limit + 1

-- both texts are accepted, over these names, and the journal is a run of their trees within these limits, in the order of
-- one lane
pub record Runs (spec text : List ℕ) (names : List (List ℕ)) (limits : Limits) (journal : List Entry) : Type 0 where
  pub tree : SpecTree
  pub expression : ExprTree
  pub accepted : IsAccepted spec text names tree expression
  pub run_of : IsRun names tree expression limits.steps journal
  pub order : IsInOrder tree journal

-- the specification is accepted, and has so many classes
pub record HasClasses (spec : List ℕ) (classes : ℕ) : Type 0 where
  pub tree : SpecTree
  pub accepted : IsChecked spec tree
  pub count : classes ≡ length tree.classes

-- ---- by the command

-- the first refusal: of the specification alone, or of it and the text that runs
abbrev pub refusal_of : Command → List ℕ → Option SpecFault
refusal_of check spec = spec_refusal spec
refusal_of (run text limits log) spec = first_refusal spec text

-- the command runs a text within its limits, and the journal is the run
abbrev pub RunsBy : Command → List ℕ → List (List ℕ) → List Entry → Type 0
RunsBy check spec names journal = ⊥
RunsBy (run text limits log) spec names journal = Runs spec text names limits journal

-- the command checks the specification, which has so many classes
abbrev pub ChecksBy : Command → List ℕ → ℕ → Type 0
ChecksBy check spec classes = HasClasses spec classes
ChecksBy (run text limits log) spec classes = ⊥

-- ---- the end that is meant

-- a run that ends so
abbrev pub Finishes : Command → List ℕ → List (List ℕ) → List Entry → Finish → Type 0
Finishes command spec names journal finish = RunsBy command spec names journal × (finish_of journal ≡ Some finish)

-- the end that is meant of a specification under a command
abbrev pub MeansTexts : Command → List ℕ → List (List ℕ) → List Entry → End → Type 0
MeansTexts command spec names journal (Ended slot) = Finishes command spec names journal (ended slot)
MeansTexts command spec names journal (Failed fault exit thread place) =
    Finishes command spec names journal (failed fault exit thread place)
MeansTexts command spec names journal (Checked classes) = ChecksBy command spec classes × (journal ≡ [])
MeansTexts command spec names journal (Refused fault) = (refusal_of command spec ≡ Some fault) × (journal ≡ [])
MeansTexts command spec names journal OutOfMemory = (journal ≡ []) ⊎ RunsBy command spec names journal
MeansTexts command spec names journal _ = ⊥

-- the end that is meant of a command behind the bytes that were read
abbrev pub MeansCommand : Outside → List ℕ → Command → List (List ℕ) → List Entry → End → Type 0
MeansCommand source spec command names journal ReadFault = IsFaulty source × (journal ≡ [])
MeansCommand source spec command names journal OutOfMemory =
    IsCalm source × ((journal ≡ []) ⊎ (WasRead source spec × RunsBy command spec names journal))
MeansCommand source spec command names journal end =
    IsCalm source × WasRead source spec × MeansTexts command spec names journal end

-- faulty words read nothing, and do not ask for the log
pub record MeansUsage (words : List (List ℕ)) (log : Bool) (source : Outside) (journal : List Entry) : Type 0 where
  pub no_command : IsNoCommand words
  pub no_log : log ≡ false
  pub untouched : IsUntouched source
  pub calm : IsCalm source
  pub empty : journal ≡ []

-- the words are this command, and ask for the log where it does
pub record Asks (words : List (List ℕ)) (log : Bool) (command : Command) : Type 0 where
  pub words_are : IsCommand words command
  pub log_is : log ≡ asks_log command

-- the end that is meant of the words, which ask for the log or not; the names are those of the texts that run
abbrev pub Means : List (List ℕ) → Bool → Outside → List ℕ → List (List ℕ) → List Entry → End → Type 0
Means words log source spec names journal Usage = MeansUsage words log source journal
Means words log source spec names journal end =
    (command : Command) × Asks words log command × MeansCommand source spec command names journal end

-- What a command does to its source and its sink, and what it reports: the end that is meant, behind some bytes that were
-- read, and what was written of it.
pub record DoesCommand (command : Command) (source sink : Outside) (report : Report) : Type 0 where
  pub spec : List ℕ
  pub names : List (List ℕ)
  pub meant : End
  pub means : MeansCommand source spec command names report.journal meant
  pub wrote : Wrote names report.journal report.log meant sink report.end
