use Rattle.std.proofs.Common.{◌≡◌, ◌++◌, length}
use Rattle.stmt_fronts.specs.Turns.{all_within}
use Rattle.stmt_front_reader.proofs.wanted_stack.WantedStack.put_within.Given as goal

abbrev pub invariant-loop-last : goal.invariant-loop-last
invariant-loop-last l = all_within l.rest ++ l.self ≡ all_within l.fn.front ++ l.initial.self

abbrev pub decreases-loop-last : goal.decreases-loop-last
decreases-loop-last l = length l.rest
