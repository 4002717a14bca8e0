use Rattle.std.proofs.Common.{◌≡◌, take, map}
use Rattle.std.specs.List.{filter}
use Rattle.value_operators.specs.Sets.{members_of, in_every}
use Rattle.set_ops.proofs.distributed.in_all.Given as goal

abbrev pub invariant-loop-member : goal.invariant-loop-member
invariant-loop-member l = l.kept.items ≡ filter (in_every (map members_of l.sets)) (take l.member-index l.members)
