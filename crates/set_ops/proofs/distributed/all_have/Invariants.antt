use Rattle.std.proofs.Common.{◌≡◌, take, true, map}
use Rattle.std.specs.List.{list_all}
use Rattle.value_operators.specs.Members.{has}
use Rattle.value_operators.specs.Sets.{members_of}
use Rattle.set_ops.proofs.distributed.all_have.Given as goal

abbrev pub invariant-loop-set : goal.invariant-loop-set
invariant-loop-set l = list_all (λ ws. has ws l.value) (map members_of (take l.set-index l.sets)) ≡ true
