use Rattle.std.proofs.Common.{◌≡◌, take, map}
use Rattle.abstract_syntax.specs.ValueSets.{set_value}
use Rattle.set_ops.proofs.powers.sets.Given as goal

abbrev pub invariant-loop-list : goal.invariant-loop-list
invariant-loop-list l = l.sets.items ≡ map set_value (take l.list-index l.lists)
