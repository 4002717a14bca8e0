use Rattle.std.proofs.Common.{◌≡◌, ◌≤◌, List}
use Rattle.run_journal.specs.declared.answer.Answer.{Answer}
use Rattle.step_data.specs.Actions.{busy, height}
use Rattle.thread_stack.specs.Standing.{stands_with, load}
use Rattle.stmt_exec.proofs.running.run.Given as goal

-- the thread stands where it stood, and its rank is no higher
abbrev pub invariant-actions : goal.invariant-actions
invariant-actions l = record {
  same : (answers : List Answer) → stands_with l.stack l.action answers ≡ stands_with l.fn.stack l.fn.action answers;
  low : load l.stack.levels.items l.stack.fuel (height l.action) ≤ load l.fn.stack.levels.items l.fn.stack.fuel (height l.fn.action);
  table : l.stack.table ≡ l.fn.stack.table;
}

abbrev pub decreases-actions : goal.decreases-actions
decreases-actions l = load l.stack.levels.items l.stack.fuel (busy l.action)
