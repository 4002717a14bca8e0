use Rattle.std.proofs.Common.{refl}
use Rattle.type_tree.specs.TypeView.{type_view}
use Rattle.class_checks.specs.TypeNames.{type_faults}
use Rattle.check_steps.specs.Below.check_scopes.specs.Told.{first_in, spec_in, types_in}
use Rattle.check_steps.specs.Below.check_frames.specs.Meant.{scope_here}
use Rattle.check_steps.specs.Below.check_frames.specs.Steps.{refused_next, told_onward}
use Rattle.check_named.proofs.Begun.{of_type_begun}
use Rattle.check_named.proofs.tested.of_type_next.Goals as goal

pub returns : goal.returns
returns c =
    λ place. told_onward c.args.here.setting c.tested_next.result (first_in c.args.refusals.now) (first_in c.type_faults.new.refusals) _ _ (of_type_begun c.args.here.setting (scope_here c.args.here) c.args.tested (type_view c.args.declared.now) place)
    (refused_next c.args.here.setting c.tested_next.result (first_in c.args.refusals.now) (first_in c.type_faults.new.refusals) (type_faults (spec_in c.args.here.setting) (types_in c.args.here.setting) (type_view c.args.declared.now)) _ _ c.type_faults.ensures refl c.tested_next.ensures)
