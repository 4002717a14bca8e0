use Rattle.std.proofs.Common.{ap}
use Rattle.check_series.specs.Below.check_scopes.specs.Told.{first_in}
use Rattle.check_series.specs.Below.check_frames.specs.Meant.{scope_here, step_check}
use Rattle.check_series.specs.Below.check_frames.specs.Steps.{told_next}
use Rattle.check_series.specs.Below.check_frames.specs.declared.step.Step.{Step}
use Rattle.check_parts.proofs.frames.step_next.Goals as goal

pub returns-in-Given : goal.returns-in-Given
returns-in-Given c =
    told_next c.args.here.setting c.givens_next.result (first_in c.args.refusals.now) _ _ (ap (λ (x : Step). step_check c.args.here.setting (scope_here c.args.here) x c.args.form) c.in-Given.is) c.givens_next.ensures
