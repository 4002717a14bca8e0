use Rattle.std.proofs.Common.{[], refl, length}
use Rattle.class_checks.specs.Callees.{value_callee}
use Rattle.check_series.specs.Below.check_scopes.specs.Told.{first_in, spec_in}
use Rattle.check_series.specs.Below.check_frames.specs.Meant.{scope_here}
use Rattle.check_series.specs.Below.check_frames.specs.declared.rest.Rest.TheVariants.{Items}
use Rattle.check_series.specs.Below.check_steps.specs.Calls.{called_on}
use Rattle.check_parts.proofs.targets.head_behind.Goals as goal

pub returns : goal.returns
returns c =
    called_on c.args.here.setting c.called_next.result (scope_here c.args.here) (Items c.args.arguments) (first_in c.args.refusals.now) (first_in c.value_callee.new.refusals) c.in_ok-callee.callee (value_callee (spec_in c.args.here.setting) [] c.args.form c.args.head_place (length c.args.arguments.now) c.args.place) (c.in_ok-callee.ensures (first_in c.args.refusals.now) [] refl refl) c.called_next.ensures
