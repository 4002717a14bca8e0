use Rattle.std.proofs.Common.{length}
use Rattle.class_checks.specs.Callees.{created_callee}
use Rattle.shared_names.specs.Maps.{held}
use Rattle.check_steps.specs.Below.check_scopes.specs.Told.{first_in, spec_in}
use Rattle.check_steps.specs.Below.check_frames.specs.Meant.{scope_here}
use Rattle.check_steps.specs.Below.check_frames.specs.Steps.{told_onward}
use Rattle.check_steps.specs.Below.check_frames.specs.declared.rest.Rest.TheVariants.{Items}
use Rattle.check_steps.specs.Calls.{called_on}
use Rattle.check_called.proofs.Called.{create_begun}
use Rattle.check_called.proofs.calls.created_next.Goals as goal

pub returns : goal.returns
returns c =
    let later = first_in c.created_callee.new.refusals in
    told_onward c.args.here.setting c.called_next.result (first_in c.args.refusals.now) later _ _
    (create_begun c.args.here.setting (scope_here c.args.here) c.args.class.name c.args.class.place c.args.arguments c.args.place)
    (called_on c.args.here.setting c.called_next.result (scope_here c.args.here) (Items c.args.arguments) (first_in c.args.refusals.now) later c.in_ok-callee.callee (created_callee (spec_in c.args.here.setting) (scope_here c.args.here) c.args.class.place c.args.place (length c.args.arguments.now) c.args.class.name) (c.in_ok-callee.ensures (held c.args.here.locals.now)) c.called_next.ensures)
