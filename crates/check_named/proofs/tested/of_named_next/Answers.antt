use Rattle.std.proofs.Common.{refl}
use Rattle.class_checks.specs.TypeNames.{name_faults}
use Rattle.check_steps.specs.Below.check_scopes.specs.Told.{first_in, spec_in, types_in}
use Rattle.check_steps.specs.Below.check_frames.specs.Meant.{scope_here}
use Rattle.check_steps.specs.Below.check_frames.specs.Steps.{refused_next, told_onward}
use Rattle.check_named.proofs.Begun.{of_named_begun}
use Rattle.check_named.proofs.tested.of_named_next.Goals as goal

pub returns : goal.returns
returns c =
    told_onward c.args.here.setting c.tested_next.result (first_in c.args.refusals.now) (first_in c.name_faults.new.refusals) _ _ (of_named_begun c.args.here.setting (scope_here c.args.here) c.args.type_name c.args.tested c.args.place)
    (refused_next c.args.here.setting c.tested_next.result (first_in c.args.refusals.now) (first_in c.name_faults.new.refusals) (name_faults (spec_in c.args.here.setting) (types_in c.args.here.setting) c.args.type_name c.args.place) _ _ c.name_faults.ensures refl c.tested_next.ensures)
