use Rattle.std.proofs.Common.{◌≡◌, length}
use Rattle.stmt_fronts.specs.Fronts.{needed}
use Rattle.stmt_front_reader.proofs.wanted_stack.WantedStack.needed.Given as goal

-- what was passed may be left out
abbrev pub invariant-loop-next : goal.invariant-loop-next
invariant-loop-next l = needed l.self ≡ needed l.initial.self

abbrev pub decreases-loop-next : goal.decreases-loop-next
decreases-loop-next l = length l.self
