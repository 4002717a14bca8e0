use Rattle.std.proofs.Common.{◌≡◌, ◌++◌, take}
use Rattle.value_results.proofs.copies.push_pairs.Given as goal

abbrev pub invariant-loop-other : goal.invariant-loop-other
invariant-loop-other l = l.pairs.items ≡ l.fn.pairs.items ++ take l.other-index l.others
