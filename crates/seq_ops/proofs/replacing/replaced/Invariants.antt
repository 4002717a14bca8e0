use Rattle.std.proofs.Common.{◌≡◌, take, pos}
use Rattle.value_operators.specs.Sequences.{replaced}
use Rattle.seq_ops.proofs.replacing.replaced.Given as goal

abbrev pub invariant-loop-index : goal.invariant-loop-index
invariant-loop-index l = l.replaced.items ≡ replaced l.pairs (pos 1) (take l.index l.items)
