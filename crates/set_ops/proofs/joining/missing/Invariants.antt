use Rattle.std.proofs.Common.{◌≡◌, take, not}
use Rattle.std.specs.List.{filter}
use Rattle.value_operators.specs.Members.{has as has_member}
use Rattle.set_ops.proofs.joining.missing.Given as goal

abbrev pub invariant-loop-member : goal.invariant-loop-member
invariant-loop-member l = l.kept.items ≡ filter (λ v. not (has_member l.others v)) (take l.member-index l.members)
