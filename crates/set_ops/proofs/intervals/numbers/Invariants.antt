use Rattle.std.proofs.Common.{◌≡◌, ◌++◌, ◌≤ℤ◌}
use Rattle.value_operators.specs.Members.{numbers_from, count_from_to}
use borrow.Author.Gap.{gap}
use Rattle.set_ops.proofs.intervals.numbers.Given as goal

-- what was made and what follows is the whole
abbrev pub invariant-loop-next : goal.invariant-loop-next
invariant-loop-next l = record {
  whole : l.made.items ++ numbers_from l.next (count_from_to l.next l.n) ≡ numbers_from l.m (count_from_to l.m l.n);
  within : l.next ≤ℤ l.n;
}

abbrev pub decreases-loop-next : goal.decreases-loop-next
decreases-loop-next l = gap l.next l.n
