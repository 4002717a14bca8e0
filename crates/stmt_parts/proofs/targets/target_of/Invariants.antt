use Rattle.std.proofs.Common.{◌≡◌, [], map, reverse}
use Rattle.expr_tree.specs.View.{boxed_view}
use Rattle.vdm_tree.specs.StmtView.{target_step_view}
use Rattle.stmt_reading.specs.Statements.{target_of}
use Rattle.stmt_parts.specs.Targets.{postfixes}
use Rattle.stmt_parts.proofs.targets.target_of.Given as goal

-- behind what was read, what is read in the turns that are left
abbrev pub invariant-loop-steps : goal.invariant-loop-steps
invariant-loop-steps l =
    target_of (boxed_view l.rest) (reverse (map target_step_view l.steps.items)) ≡ target_of (boxed_view l.fn.read) []

abbrev pub decreases-loop-steps : goal.decreases-loop-steps
decreases-loop-steps l = postfixes (boxed_view l.rest)
