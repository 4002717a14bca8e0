use Rattle.std.proofs.Common.{◌≡◌, take}
use Rattle.patterns.specs.Todos.{at}
use Rattle.patterns.proofs.open.each_value.Given as goal

-- those so far
abbrev pub invariant-loop-value : goal.invariant-loop-value
invariant-loop-value l = at l.references.items ≡ take l.value-index l.values
