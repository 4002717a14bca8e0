use Rattle.std.proofs.Common.{◌≡◌, ◌++◌}
use Rattle.std.specs.Vec.Iter.{into_iter_items}
use Rattle.fit_steps.proofs.sharing.all_shared.Given as goal

-- those that are shared, and those that are left
abbrev pub invariant-loop-value : goal.invariant-loop-value
invariant-loop-value l = l.shared.items ++ into_iter_items l.value-iterator ≡ l.fn.values.items
