use Rattle.std.proofs.Common.{◌≡◌}
use Rattle.check_patterns.proofs.Counts.{any_list}
use Rattle.check_patterns.proofs.tuples.any_parts.Given as goal

abbrev pub invariant-loop-done : goal.invariant-loop-done
invariant-loop-done l = l.parts.items ≡ any_list l.done
