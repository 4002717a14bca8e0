use Rattle.std.proofs.Common.{length}
use Rattle.class_checks.specs.Expressions.{record_callee}
use Rattle.check_steps.specs.Below.check_scopes.specs.Told.{first_in, spec_in}
use Rattle.check_steps.specs.Below.check_frames.specs.Meant.{scope_here}
use Rattle.check_steps.specs.Below.check_frames.specs.Steps.{told_onward}
use Rattle.check_steps.specs.Below.check_frames.specs.declared.rest.Rest.TheVariants.{Items}
use Rattle.check_steps.specs.Calls.{called_on}
use Rattle.check_called.proofs.Called.{record_begun}
use Rattle.check_called.proofs.calls.made_next.Goals as goal

pub returns : goal.returns
returns c =
    let later = first_in c.record_callee.new.refusals in
    told_onward c.args.here.setting c.called_next.result (first_in c.args.refusals.now) later _ _
    (record_begun c.args.here.setting (scope_here c.args.here) c.args.type_name c.args.fields c.args.place)
    (called_on c.args.here.setting c.called_next.result (scope_here c.args.here) (Items c.args.fields) (first_in c.args.refusals.now) later c.in_ok-callee.callee (record_callee (spec_in c.args.here.setting) (scope_here c.args.here) c.args.type_name (length c.args.fields.now) c.args.place) c.in_ok-callee.ensures c.called_next.ensures)
