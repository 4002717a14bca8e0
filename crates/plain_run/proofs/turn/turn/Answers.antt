use Rattle.std.proofs.Common.{inl, inr}
use Rattle.plain_run.proofs.Endings.{also-on_err}
use Rattle.plain_run.proofs.turn.turn.Goals as goal

pub answer-requires : goal.answer-requires
answer-requires c = record { ready = c.requires.ready _ c.in_ok-question.ensures.asks }

pub returns-in_err-answer-clause-err : goal.returns-in_err-answer-clause-err
returns-in_err-answer-clause-err c = also-on_err c.from_residual-in_err-answer.result (inl c.in_err-answer.ensures.err)

pub returns-in_err-answer-2-clause-err : goal.returns-in_err-answer-2-clause-err
returns-in_err-answer-2-clause-err c =
    also-on_err c.from_residual-in_err-answer-2.result
    (inr (record { question = c.in_ok-question.question; answer = c.in_ok-answer.answer; asked = c.in_ok-question.ensures.asks; entered = c.in_ok-answer.ensures.entered }))

pub returns-clause-ok : goal.returns-clause-ok
returns-clause-ok c = record {
  answered = record { question = c.in_ok-question.question; answer = c.in_ok-answer.answer; asked = c.in_ok-question.ensures.asks; entered = c.in_ok-answer.ensures.entered };
  goes_on = rw c.in_ok-question.ensures.kept at c.in_ok-answer-2.ensures.goes_on;
}
