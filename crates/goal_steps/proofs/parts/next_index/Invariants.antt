use Rattle.std.proofs.Common.{◌≡◌, length, map}
use Rattle.vdm_tree.specs.StmtView.{target_step_view}
use Rattle.stmt_meaning.specs.Targets.{indices}
use Rattle.goal_steps.proofs.parts.next_index.Given as goal

-- the fields that were passed have no index
abbrev pub invariant-loop-step : goal.invariant-loop-step
invariant-loop-step l = indices (map target_step_view l.left) ≡ indices (map target_step_view l.steps)

abbrev pub decreases-loop-step : goal.decreases-loop-step
decreases-loop-step l = length l.left
