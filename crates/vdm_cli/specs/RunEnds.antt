-- How the run of a specification and an expression ends.
use Rattle.std.specs.Prelude.{◌≡◌, ℕ, List}
use Rattle.abstract_syntax.specs.Classes.{SpecTree}
use Rattle.abstract_syntax.specs.Expressions.{ExprTree}
use Rattle.run_journal.specs.declared.entry.Entry.{Entry}
use Rattle.vdm_legal.specs.Order.{IsInOrder}
use Rattle.vdm_legal.specs.Finishes.{finish_of}
use Rattle.vdm_meaning.specs.Runs.{IsRun}
use Rattle.vdm_report.specs.declared.end.End.{End}
use Rattle.vdm_report.specs.declared.end.End.TheVariants.{Ended, Failed, OutOfMemory}
use Rattle.vdm_report.specs.Ends.{finish_in, HasReportLine}

-- the end is that of the journal's run; or memory was wanting
abbrev pub EndsRun : List Entry → End → Type 0
EndsRun journal (Ended slot) = finish_of journal ≡ finish_in (Ended slot)
EndsRun journal (Failed fault exit thread place) = finish_of journal ≡ finish_in (Failed fault exit thread place)
EndsRun journal OutOfMemory = Unit {0}
EndsRun journal _ = ⊥

-- a run of a specification and an expression with these units, over the names of their texts, in the order of one lane: to its
-- end, or as far as memory allowed
pub record RunsTo (names : List (List ℕ)) (spec : SpecTree) (tree : ExprTree) (units : ℕ) (journal : List Entry) (end : End) : Type 0 where
  pub run : IsRun names spec tree units journal
  pub order : IsInOrder spec journal
  pub ends : EndsRun journal end
  pub line : HasReportLine end
