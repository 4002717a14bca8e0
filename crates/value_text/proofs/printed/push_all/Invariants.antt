use Rattle.std.proofs.Common.{◌≡◌, ◌++◌, drop}
use Rattle.value_text.proofs.printed.push_all.Given as goal

abbrev pub invariant-loop-item : goal.invariant-loop-item
invariant-loop-item l = l.text.items ++ drop l.item-index l.items ≡ l.initial.text.items ++ l.items
