use Rattle.std.proofs.Common.{[], ◌∷◌, map}
use Rattle.abstract_syntax.specs.Statements.{TargetStepTree}
use Rattle.form_meaning.specs.Forms.{FormTree}
use Rattle.vdm_tree.specs.StmtView.{target_step_view}
use Rattle.class_checks.specs.Results.{Checked}
use Rattle.spec_checks.specs.Targets.{steps_in}
use Rattle.stmt_exprs.specs.Below.check_scopes.specs.Told.{first_in}
use Rattle.stmt_exprs.specs.Below.check_frames.specs.Meant.{spec_here}
use Rattle.stmt_exprs.specs.Below.stmt_scopes.specs.InTurn.{turn_taken}
use Rattle.stmt_exprs.specs.Below.stmt_scopes.specs.Refused.{refused}
use Rattle.stmt_exprs.specs.Below.stmt_scopes.specs.Standing.{stands_here}
use Rattle.target_steps.proofs.Stepping.{steps_first}
use Rattle.target_steps.proofs.steps.form_behind.Goals as goal

pub loop-step-preserved : goal.loop-step-preserved
loop-step-preserved c =
    let spec = spec_here c.args.stands.here in
    let scope = stands_here c.args.stands in
    turn_taken target_step_view
    (λ (f : FormTree) (s : TargetStepTree) (rest : FormTree → Checked). steps_in spec scope c.args.place f (s ∷ []) rest)
    (steps_in spec scope c.args.place) (steps_first spec scope c.args.place) c.args.steps.now c.loop-step.step-index c.step-item.result
    c.loop-step.found c.in_ok-found.found (first_in c.loop-step.refusals) (first_in c.part_behind.new.refusals)
    (λ (rest : FormTree → Checked). refused (first_in c.args.refusals.now) (steps_in spec scope c.args.place c.args.form (map target_step_view c.args.steps.now) rest))
    c.step-item.is c.loop-step-test.true c.in_ok-found.ensures c.loop-step.invariant
