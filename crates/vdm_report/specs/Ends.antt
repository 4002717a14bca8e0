-- The ends: their status, their last line, and what a journal decides.
use Rattle.std.specs.Prelude.{◌≡◌, ℕ, List, Option, Some, None}
use Rattle.vdm_legal.specs.Finishes.{Finish, ended, failed}
use Rattle.report_texts.specs.Lines.{usage_line, read_fault_line, tick_fault_line, refused_line, failed_line, result_line}
use Rattle.report_texts.specs.Lines.{checked_line, made_line, deadlock_line, ticks_over_line, journal_full_line}
use Rattle.vdm_report.specs.declared.end.End.{End}
use Rattle.vdm_report.specs.declared.end.End.TheVariants.{Ended, Checked, Made, Refused, Usage, Failed, Deadlock, TicksOver}
use Rattle.vdm_report.specs.declared.end.End.TheVariants.{ReadFault, WriteFault, TickFault, OutOfMemory, JournalFull}

-- the exit status of each end
abbrev pub status_of : End → ℕ
status_of (Ended slot) = 0
status_of (Checked classes) = 0
status_of (Made classes entries result) = 0
status_of (Refused fault) = 1
status_of Usage = 2
status_of (Failed fault exit thread place) = 3
status_of (Deadlock blocked) = 4
status_of (TicksOver ticks) = 5
status_of ReadFault = 6
status_of WriteFault = 7
status_of TickFault = 8
status_of OutOfMemory = 9
status_of (JournalFull entries) = 10

-- the last line of each end, over these names: a report that can't be written or made has none
abbrev pub IsLastLine : List (List ℕ) → End → List ℕ → Type 0
IsLastLine names (Ended slot) text = text ≡ result_line names slot
IsLastLine names (Checked classes) text = text ≡ checked_line classes
IsLastLine names (Made classes entries result) text = text ≡ made_line classes entries result
IsLastLine names (Refused fault) text = text ≡ refused_line fault
IsLastLine names Usage text = text ≡ usage_line
IsLastLine names (Failed fault exit thread place) text = text ≡ failed_line names fault exit thread place
IsLastLine names (Deadlock blocked) text = text ≡ deadlock_line names blocked
IsLastLine names (TicksOver ticks) text = text ≡ ticks_over_line ticks
IsLastLine names ReadFault text = text ≡ read_fault_line
IsLastLine names WriteFault text = ⊥
IsLastLine names TickFault text = text ≡ tick_fault_line
IsLastLine names OutOfMemory text = ⊥
IsLastLine names (JournalFull entries) text = text ≡ journal_full_line entries

-- how a run ends that ends so
abbrev pub finish_in : End → Option Finish
finish_in (Ended slot) = Some (ended slot)
finish_in (Failed fault exit thread place) = Some (failed fault exit thread place)
finish_in _ = None

-- an end whose report can be made: it has a last line, or memory was wanting
abbrev pub HasReportLine : End → Type 0
HasReportLine WriteFault = ⊥
HasReportLine end = Unit {0}

-- an end of which nothing is written that may hold a name
abbrev pub NeedsNoNames : End → Type 0
NeedsNoNames (Ended slot) = ⊥
NeedsNoNames (Failed fault exit thread place) = ⊥
NeedsNoNames (Deadlock blocked) = ⊥
NeedsNoNames end = Unit {0}
