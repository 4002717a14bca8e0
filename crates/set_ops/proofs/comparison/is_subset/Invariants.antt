use Rattle.std.proofs.Common.{◌≡◌, take, true}
use Rattle.std.specs.List.{list_all}
use Rattle.value_operators.specs.Members.{has as has_member}
use Rattle.set_ops.proofs.comparison.is_subset.Given as goal

-- the others have every member seen so far
abbrev pub invariant-loop-member : goal.invariant-loop-member
invariant-loop-member l = list_all (has_member l.others) (take l.member-index l.members) ≡ true
