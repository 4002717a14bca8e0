use Rattle.std.proofs.Common.{◌≡◌, map, drop}
use Rattle.form_meaning.specs.Forms.{FormTree}
use Rattle.vdm_tree.specs.StmtView.{target_step_view}
use Rattle.class_checks.specs.Results.{Checked}
use Rattle.spec_checks.specs.Targets.{steps_in}
use Rattle.stmt_exprs.specs.Below.check_scopes.specs.Told.{first_in}
use Rattle.stmt_exprs.specs.Below.check_frames.specs.Meant.{spec_here}
use Rattle.stmt_exprs.specs.Below.stmt_scopes.specs.Refused.{refused}
use Rattle.stmt_exprs.specs.Below.stmt_scopes.specs.Standing.{stands_here}
use Rattle.target_steps.proofs.steps.form_behind.Given as goal

abbrev pub invariant-loop-step : goal.invariant-loop-step
invariant-loop-step l =
    (rest : FormTree → Checked)
    → refused (first_in l.refusals) (steps_in (spec_here l.stands.here) (stands_here l.stands) l.place l.found (map target_step_view (drop l.step-index l.steps)) rest)
    ≡ refused (first_in l.fn.refusals) (steps_in (spec_here l.stands.here) (stands_here l.stands) l.place l.fn.form (map target_step_view l.steps) rest)
