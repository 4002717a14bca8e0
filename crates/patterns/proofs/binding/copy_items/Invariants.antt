use Rattle.std.proofs.Common.{◌≡◌, take}
use Rattle.patterns.proofs.binding.copy_items.Given as goal

-- those so far are copied
abbrev pub invariant-loop-item : goal.invariant-loop-item
invariant-loop-item l = l.copies.items ≡ take l.item-index l.items
