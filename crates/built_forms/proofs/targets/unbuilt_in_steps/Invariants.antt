use Rattle.std.proofs.Common.{◌≡◌, map, drop}
use Rattle.text_phases.specs.Built.{unbuilt_in_steps}
use Rattle.vdm_tree.specs.StmtView.{target_step_view}
use Rattle.built_forms.proofs.targets.unbuilt_in_steps.Given as goal

-- the steps so far are built, so that the rest decides
abbrev pub invariant-loop-step : goal.invariant-loop-step
invariant-loop-step l = unbuilt_in_steps (map target_step_view (drop l.step-index l.steps)) ≡ unbuilt_in_steps (map target_step_view l.steps)
