use Rattle.std.proofs.Common.{◌≡◌, ◌+◌, length}
use Rattle.grammar_fronts.specs.Viable.{start}
use Rattle.leaf_reader.proofs.Fronts.{taken}
use Rattle.leaf_reader.proofs.front.behind_front.Given as goal

-- what is taken of all is what was taken, and what is taken of the rest
abbrev pub invariant-loop-next : goal.invariant-loop-next
invariant-loop-next l = length l.fn.items + taken l.rest l.wanted ≡ length l.rest + taken l.fn.items (start l.fn.kind)

abbrev pub decreases-loop-next : goal.decreases-loop-next
decreases-loop-next l = length l.rest
