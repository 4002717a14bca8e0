use Rattle.std.proofs.Common.{◌≡◌}
use Rattle.expr_tree.specs.View.{view_of}
use Rattle.stmt_trees.specs.StmtGrammar.{primary}
use Rattle.stmt_parts.specs.Targets.{postfixes}
use Rattle.stmt_parts.proofs.assignments.primary.Given as goal

-- behind what was read, what is read in the turns that are left
abbrev pub invariant-loop-at : goal.invariant-loop-at
invariant-loop-at l =
    primary (view_of l.at) ≡ primary (view_of l.fn.tree)

abbrev pub decreases-loop-at : goal.decreases-loop-at
decreases-loop-at l = postfixes (view_of l.at)
