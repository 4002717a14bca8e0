use Rattle.std.proofs.Common.{◌≡◌, length}
use Rattle.type_tree.specs.TypeView.{type_view}
use Rattle.type_reading.specs.Reading.{settled}
use Rattle.type_grammar.specs.Views.{stack_view}
use Rattle.type_grammar.proofs.ends.settled.Given as goal

-- what is left to end comes to the same
abbrev pub invariant-loop-tree : goal.invariant-loop-tree
invariant-loop-tree l = settled (type_view l.tree) (stack_view l.frames.items) ≡ settled (type_view l.fn.tree) (stack_view l.fn.frames.items)

abbrev pub decreases-loop-tree : goal.decreases-loop-tree
decreases-loop-tree l = length l.frames.items
