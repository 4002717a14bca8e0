use Rattle.std.proofs.Common.{◌≡◌, ◌++◌, replicate}
use Rattle.search_steps.proofs.copies.with_others.Given as goal

abbrev pub invariant-loop-copy : goal.invariant-loop-copy
invariant-loop-copy l = l.all.items ≡ l.fn.lists.items ++ replicate l.copy l.values
