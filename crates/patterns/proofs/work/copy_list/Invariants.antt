use Rattle.std.proofs.Common.{◌≡◌, take}
use Rattle.patterns.proofs.work.copy_list.Given as goal

-- those so far are copied
abbrev pub invariant-loop-value : goal.invariant-loop-value
invariant-loop-value l = l.copies.items ≡ take l.value-index l.values
