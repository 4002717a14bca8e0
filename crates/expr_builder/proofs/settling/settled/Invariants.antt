use Rattle.std.proofs.Common.{◌≡◌, length}
use Rattle.expr_tree.specs.View.{view_of}
use Rattle.expr_builder.specs.Settling.{settled}
use Rattle.tree_frames.specs.Views.{stack_view}
use Rattle.expr_builder.proofs.settling.settled.Given as goal

-- what the frames that are left make of the expression is what all of them make of it
abbrev pub invariant-loop-frame : goal.invariant-loop-frame
invariant-loop-frame l = settled l.behind (view_of l.tree.value) (stack_view l.frames.items) ≡ settled l.fn.behind (view_of l.fn.tree.value) (stack_view l.fn.frames.items)

abbrev pub decreases-loop-frame : goal.decreases-loop-frame
decreases-loop-frame l = length l.frames.items
