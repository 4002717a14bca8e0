use Rattle.std.proofs.Common.{refl}
use Rattle.thread_stack.specs.declared.stack.Stack.{Stack}
use Rattle.stmt_exec.proofs.Resting.{failed, exit_failed, goes_on}
use Rattle.stmt_exec.proofs.answering.rest_after.Goals as goal

pub returns-in-Fails-clause-same : goal.returns-in-Fails-clause-same
returns-in-Fails-clause-same c = λ names answers. failed names c.args.stack.now c.args.rest _ _ c.args.answer answers c.in-Fails.is

pub returns-in-Exits-clause-same : goal.returns-in-Exits-clause-same
returns-in-Exits-clause-same c = λ names answers. exit_failed names c.args.stack.now c.args.rest _ _ c.args.answer answers c.in-Exits.is

pub returns-in_ok-action-in-Asks-clause-same : goal.returns-in_ok-action-in-Asks-clause-same
returns-in_ok-action-in-Asks-clause-same c =
    let mid : Stack = record c.args.stack.now { locals = c.answered_of.new.locals } in
    goes_on c.run.result c.args.stack.now mid c.run.new.stack c.args.rest c.in-Asks.asking c.args.answer c.in_ok-action-in-Asks.action c.in-Asks.is refl refl refl refl
    c.in_ok-action-in-Asks.ensures.same c.run.ensures.same
