use Rattle.std.proofs.Common.{◌≡◌, ◌≤◌, List}
use Rattle.run_journal.specs.declared.answer.Answer.{Answer}
use Rattle.expr_eval.specs.Turns.{stands_with}
use Rattle.expr_eval.specs.Weights.{weight, load}
use Rattle.expr_eval.proofs.eval.Eval.run.Given as goal

-- the evaluation stands where it stood, and weighs no more
abbrev pub invariant-steps : goal.invariant-steps
invariant-steps l = record {
  same : (answers : List Answer) → stands_with l.self l.doing.nest l.doing.step answers l.fuel ≡ stands_with l.fn.self l.fn.doing.nest l.fn.doing.step answers l.fn.fuel;
  low : load l.self.frames.items l.fuel (weight l.doing.step) ≤ load l.fn.self.frames.items l.fn.fuel (weight l.fn.doing.step);
  next : l.self.next ≡ l.fn.self.next;
}

abbrev pub decreases-steps : goal.decreases-steps
decreases-steps l = load l.self.frames.items l.fuel (weight l.doing.step)
