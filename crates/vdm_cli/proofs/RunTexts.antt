-- What the run of accepted texts, and the check of a specification, say of them.
use Rattle.std.specs.Prelude.{◌≡◌, ℕ, Bool, List}
use Rattle.std.proofs.Common.{subst, inl, inr}
use Rattle.abstract_syntax.specs.Classes.{SpecTree}
use Rattle.abstract_syntax.specs.Expressions.{ExprTree}
use Rattle.run_journal.specs.declared.entry.Entry.{Entry}
use Rattle.text_phases.specs.Phases.{IsAccepted}
use Rattle.report_texts.specs.Words.{Limits, Command, run}
use Rattle.vdm_report.specs.declared.end.End.{End}
use Rattle.vdm_report.specs.declared.end.End.TheVariants.{Ended, Failed, ReadFault, OutOfMemory}
use Rattle.vdm_report.specs.Outside.{Outside, IsCalm}
use Rattle.vdm_cli.specs.Meant.{WasRead, MeansTexts, MeansCommand}
use Rattle.vdm_cli.specs.RunEnds.{RunsTo}

-- the run of accepted texts is what they mean
pub means_texts : (spec text : List ℕ) (limits : Limits) (log : Bool) (names : List (List ℕ)) (tree : SpecTree) (expression : ExprTree) (journal : List Entry) (end : End) → IsAccepted spec text names tree expression → RunsTo names tree expression limits.steps journal end → MeansTexts (run text limits log) spec names journal end
means_texts spec text limits log names tree expression journal (Ended slot) h r = (record { tree = tree; expression = expression; accepted = h; run_of = r.run; order = r.order }, r.ends)
means_texts spec text limits log names tree expression journal (Failed fault exit thread place) h r = (record { tree = tree; expression = expression; accepted = h; run_of = r.run; order = r.order }, r.ends)
means_texts spec text limits log names tree expression journal OutOfMemory h r = inr (record { tree = tree; expression = expression; accepted = h; run_of = r.run; order = r.order })
means_texts spec text limits log names tree expression journal end h r = absurd r.ends

-- what the texts mean is what the command means, where no read failed
means_command : (source : Outside) (spec : List ℕ) (command : Command) (names : List (List ℕ)) (journal : List Entry) (end : End) → IsCalm source → WasRead source spec → MeansTexts command spec names journal end → MeansCommand source spec command names journal end
means_command source spec command names journal OutOfMemory calm read m = (calm, elim m [ inl none ↦ inl none | inr runs ↦ inr (read, runs) ])
means_command source spec command names journal ReadFault calm read m = absurd m
means_command source spec command names journal end calm read m = (calm, read, m)

-- the same where the text came through a call
pub means_read : (source : Outside) (given spec : List ℕ) (command : Command) (names : List (List ℕ)) (journal : List Entry) (end : End) → given ≡ spec → IsCalm source → WasRead source spec → MeansTexts command given names journal end → MeansCommand source spec command names journal end
means_read source given spec command names journal end same calm read m =
    means_command source spec command names journal end calm read (subst (λ s. MeansTexts command s names journal end) same m)
