use Rattle.std.proofs.Common.{◌≡◌, take, true, map}
use Rattle.std.specs.List.{list_all, flat_map}
use Rattle.value_operators.specs.Sets.{is_set, members_of}
use Rattle.set_ops.proofs.distributed.all_members.Given as goal

abbrev pub invariant-loop-set : goal.invariant-loop-set
invariant-loop-set l = record {
  sets : list_all is_set (take l.set-index l.sets) ≡ true;
  whole : l.members.items ≡ flat_map (λ vs. vs) (map members_of (take l.set-index l.sets));
}
