use Rattle.std.proofs.Common.{◌≡◌, ◌++◌, drop}
use Rattle.main_steps.proofs.question.together_question.Given as goal

-- those so far, and what is still to be copied
abbrev pub invariant-loop-pair : goal.invariant-loop-pair
invariant-loop-pair l = l.writes.items ++ drop l.pair-index l.pairs ≡ l.fn.pairs
