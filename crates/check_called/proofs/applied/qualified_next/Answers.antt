use Rattle.class_checks.specs.Callees.{qualified_callee}
use Rattle.shared_names.specs.Maps.{held}
use Rattle.check_steps.specs.Below.check_scopes.specs.Told.{first_in, spec_in}
use Rattle.check_steps.specs.Below.check_frames.specs.Meant.{scope_here}
use Rattle.check_steps.specs.Below.check_frames.specs.declared.rest.Rest.TheVariants.{Items}
use Rattle.check_steps.specs.Calls.{called_on}
use Rattle.check_called.proofs.applied.qualified_next.Goals as goal

pub returns : goal.returns
returns c =
    called_on c.args.here.setting c.called_next.result (scope_here c.args.here) (Items c.args.arguments) (first_in c.args.refusals.now) (first_in c.qualified_callee.new.refusals) c.in_ok-callee.callee (qualified_callee (spec_in c.args.here.setting) (scope_here c.args.here) c.args.class c.args.named.name c.args.named.place c.args.call.head_place c.args.call.count c.args.call.place) (c.in_ok-callee.ensures (held c.args.here.locals.now)) c.called_next.ensures
