use Rattle.std.proofs.Common.{◌≡◌, ◌++◌}
use Rattle.old_names.specs.Walks.{coming}
use Rattle.old_names.proofs.visit.finish.Given as goal

-- what was found, and what is still to come, stay the same names
abbrev pub invariant-loop-turn : goal.invariant-loop-turn
invariant-loop-turn l = l.names.items ++ coming l.walk ≡ l.initial.names.items ++ coming l.initial.walk
