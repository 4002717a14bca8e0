use Rattle.std.proofs.Common.{ap, ◌∙◌}
use Rattle.check_series.specs.Below.check_scopes.specs.Told.{first_in}
use Rattle.check_series.specs.Below.check_frames.specs.Meant.{goal_check, scope_here}
use Rattle.check_series.specs.Below.check_frames.specs.Steps.{told_next}
use Rattle.check_series.specs.Below.check_steps.specs.Begun.{body_begun}
use Rattle.check_parts.proofs.after.goal_next.Goals as goal

pub returns-in-Binds : goal.returns-in-Binds
returns-in-Binds c =
    told_next c.args.here.setting c.binds_next.result (first_in c.args.refusals.now) _ _ (ap (goal_check c.args.here.setting (scope_here c.args.here)) c.in-Binds.is) c.binds_next.ensures

pub returns-in-Definitions : goal.returns-in-Definitions
returns-in-Definitions c =
    told_next c.args.here.setting c.definitions_next.result (first_in c.args.refusals.now) _ _ (ap (goal_check c.args.here.setting (scope_here c.args.here)) c.in-Definitions.is) c.definitions_next.ensures

pub returns-in-Iota : goal.returns-in-Iota
returns-in-Iota c =
    told_next c.args.here.setting c.condition_next.result (first_in c.args.refusals.now) _ _ (ap (goal_check c.args.here.setting (scope_here c.args.here)) c.in-Iota.is) c.condition_next.ensures

pub returns-in-Body : goal.returns-in-Body
returns-in-Body c =
    told_next c.args.here.setting c.becomes.result (first_in c.args.refusals.now) _ _ (ap (goal_check c.args.here.setting (scope_here c.args.here)) c.in-Body.is ∙ body_begun c.args.here.setting (scope_here c.args.here) _) c.becomes.ensures
