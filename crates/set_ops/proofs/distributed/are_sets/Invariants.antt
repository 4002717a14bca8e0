use Rattle.std.proofs.Common.{◌≡◌, take, true}
use Rattle.std.specs.List.{list_all}
use Rattle.value_operators.specs.Sets.{is_set}
use Rattle.set_ops.proofs.distributed.are_sets.Given as goal

abbrev pub invariant-loop-set : goal.invariant-loop-set
invariant-loop-set l = list_all is_set (take l.set-index l.sets) ≡ true
