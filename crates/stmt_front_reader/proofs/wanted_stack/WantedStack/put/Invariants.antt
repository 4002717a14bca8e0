use Rattle.std.proofs.Common.{◌≡◌, ◌++◌, length}
use Rattle.stmt_front_reader.proofs.wanted_stack.WantedStack.put.Given as goal

abbrev pub invariant-loop-last : goal.invariant-loop-last
invariant-loop-last l = l.rest ++ l.self ≡ l.fn.front ++ l.initial.self

abbrev pub decreases-loop-last : goal.decreases-loop-last
decreases-loop-last l = length l.rest
