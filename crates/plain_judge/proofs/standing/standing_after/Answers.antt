use Rattle.stmt_exec.specs.Standing.{rest}
use Rattle.plain_judge.proofs.Staying.{stays-behind, taken-on}
use Rattle.plain_judge.proofs.standing.standing_after.Goals as goal

pub loop-answer-preserved : goal.loop-answer-preserved
loop-answer-preserved c = record {
  stands = taken-on (rest c.loop-answer.machine) (rest c.give.new.machine) c.in-Some.answer _ _ _ c.in_ok-give.ensures c.in-Some.ensures.steps.0 c.loop-answer.invariant.stands;
  stays = stays-behind (rest c.loop-answer.machine) (rest c.give.new.machine) c.in-Some.answer c.in_ok-give.ensures c.loop-answer.invariant.stays;
}
