use Rattle.std.proofs.Common.{◌≡◌, ◌++◌, drop}
use Rattle.stmt_meaning.specs.Olds.{olds_in_exprs}
use Rattle.expr_tree.specs.View.{views_of, expr_trees}
use Rattle.old_names.specs.Walks.{coming}
use Rattle.old_names.proofs.visit.see_exprs.Given as goal

-- those from here on come next
abbrev pub invariant-loop-index : goal.invariant-loop-index
invariant-loop-index l = coming l.walk ≡ olds_in_exprs (expr_trees (views_of (drop l.index l.list))) ++ coming l.fn.walk
