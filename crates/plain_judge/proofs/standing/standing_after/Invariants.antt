use Rattle.std.proofs.Common.{◌≡◌}
use Rattle.std.specs.Vec.Iter.{into_iter_items}
use Rattle.plain_judge.specs.Standings.{StaysOver}
use Rattle.stmt_exec.specs.Standing.{rest}
use Rattle.plain_judge.proofs.standing.standing_after.Given as goal

-- what is left leads the machine to where all answers lead it
abbrev pub invariant-loop-answer : goal.invariant-loop-answer
invariant-loop-answer l = record {
  stands : rest l.machine (into_iter_items l.answer-iterator) ≡ rest l.fn.machine l.fn.answers;
  stays : StaysOver (rest l.machine);
}
