use Rattle.run_journal.specs.Made.{answer_of}
use Rattle.stmt_exec.specs.Standing.{rest}
use Rattle.plain_judge.proofs.Moves.{goes-on, kept-not_over}
use Rattle.plain_judge.proofs.run.takes.Goals as goal

pub answer-requires : goal.answer-requires
answer-requires c = kept-not_over rest _ _ c.in_ok-is_next.ensures.kept _ _ (c.in_ok-is_next.ensures.next.0 c.if-not-branch.false).1

pub returns-clause-goes_on : goal.returns-clause-goes_on
returns-clause-goes_on c = λ _.
    goes-on rest c.args.machine.now c.is_next.new.machine c.in_ok-is_next.ensures.kept c.answer.new.self c.in_ok-answer.answer (answer_of c.args.entry.now) c.in_ok-answer.ensures c.in_ok-answer-2.ensures.goes_on
