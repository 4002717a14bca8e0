use Rattle.std.proofs.Common.{◌≡◌, drop}
use Rattle.value_operators.specs.Sets.{sublists}
use Rattle.set_ops.proofs.powers.sublists.Given as goal

-- of the members from here on
abbrev pub invariant-loop-index : goal.invariant-loop-index
invariant-loop-index l = l.lists.items ≡ sublists (drop l.index l.members)
