use Rattle.std.proofs.Common.{◌≡◌, ◌++◌, drop}
use Rattle.stmt_meaning.specs.Olds.{olds_in_patterns}
use Rattle.expr_tree.specs.View.{pattern_views, pattern_trees}
use Rattle.old_names.specs.Walks.{coming}
use Rattle.old_names.proofs.visit.see_patterns.Given as goal

-- those from here on come next
abbrev pub invariant-loop-index : goal.invariant-loop-index
invariant-loop-index l = coming l.walk ≡ olds_in_patterns (pattern_trees (pattern_views (drop l.index l.list))) ++ coming l.fn.walk
