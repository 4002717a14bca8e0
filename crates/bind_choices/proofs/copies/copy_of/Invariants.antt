use Rattle.std.proofs.Common.{◌≡◌, map, take}
use Rattle.bind_choices.proofs.copies.copy_of.Given as goal

-- copies of those so far
abbrev pub invariant-loop-value : goal.invariant-loop-value
invariant-loop-value l = l.copies.items ≡ map (λ v. v.now) (take l.value-index l.values)
