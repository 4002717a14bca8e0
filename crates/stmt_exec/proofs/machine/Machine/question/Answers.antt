use Rattle.std.proofs.Common.{◌≡◌, ap, ◌∙◌, sym, Result, Ok, Err, IfOk}
use Rattle.run_journal.specs.declared.question.Question.{Question}
use Rattle.vdm_kinds.specs.declared.halt.OutOfMemory.{OutOfMemory}
use Rattle.vdm_meaning.specs.Main.{Standing, asks}
use Rattle.stmt_exec.proofs.Resting.{at_rest-asks, at_rest-fails, at_rest-exits}
use Rattle.stmt_exec.proofs.machine.Machine.question.Goals as goal

asked : (r : Result Question OutOfMemory) (q : Question) (s : Standing) → s ≡ asks q → IfOk r (λ p. p ≡ q) → IfOk r (λ p. s ≡ asks p)
asked (Ok p) q s e h = e ∙ ap asks (sym h)
asked (Err f) q s e h = tt

pub returns-in-Fails-clause-asks : goal.returns-in-Fails-clause-asks
returns-in-Fails-clause-asks c =
    at_rest-fails c.args.self.now.names.now c.args.self.now.stack c.args.self.now.rest c.in-Fails.fault c.in-Fails.place c.in-Fails.is ∙ ap asks (sym c.failure.ensures)

pub returns-in-Exits-clause-asks : goal.returns-in-Exits-clause-asks
returns-in-Exits-clause-asks c =
    asked c.exit.result _ _ (at_rest-exits c.args.self.now.names.now c.args.self.now.stack c.args.self.now.rest c.in-Exits.value c.in-Exits.place c.in-Exits.is) c.exit.ensures

pub returns-in-Asks-clause-asks : goal.returns-in-Asks-clause-asks
returns-in-Asks-clause-asks c =
    asked c.question_of.result _ _ (at_rest-asks c.args.self.now.names.now c.args.self.now.stack c.args.self.now.rest c.in-Asks.asking c.in-Asks.is) c.question_of.ensures
