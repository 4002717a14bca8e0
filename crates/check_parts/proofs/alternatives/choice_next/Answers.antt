use Rattle.std.proofs.Common.{ap}
use Rattle.check_series.specs.Below.check_scopes.specs.Told.{first_in}
use Rattle.check_series.specs.Below.check_frames.specs.Meant.{choice_check, scope_here}
use Rattle.check_series.specs.Below.check_frames.specs.Steps.{told_next}
use Rattle.check_series.specs.Below.check_frames.specs.declared.choice.Choice.{Choice}
use Rattle.check_parts.proofs.alternatives.choice_next.Goals as goal

pub returns-in-Then : goal.returns-in-Then
returns-in-Then c =
    told_next c.args.here.setting c.then_behind.result (first_in c.args.refusals.now) _ _ (ap (λ (x : Choice). choice_check c.args.here.setting (scope_here c.args.here) x c.args.form) c.in-Then.is) c.then_behind.ensures

pub returns-in-Last : goal.returns-in-Last
returns-in-Last c =
    told_next c.args.here.setting c.last_behind.result (first_in c.args.refusals.now) _ _ (ap (λ (x : Choice). choice_check c.args.here.setting (scope_here c.args.here) x c.args.form) c.in-Last.is) c.last_behind.ensures
