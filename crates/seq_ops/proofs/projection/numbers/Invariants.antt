use Rattle.std.proofs.Common.{◌≡◌, pos}
use Rattle.value_operators.specs.Members.{numbers_from}
use Rattle.seq_ops.proofs.projection.numbers.Given as goal

abbrev pub invariant-loop-index : goal.invariant-loop-index
invariant-loop-index l = l.numbers.items ≡ numbers_from (pos 1) l.index
