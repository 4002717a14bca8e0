use Rattle.std.proofs.Common.{refl}
use Rattle.class_checks.specs.Expressions.{class_faults}
use Rattle.check_steps.specs.Below.check_scopes.specs.Told.{first_in, spec_in}
use Rattle.check_steps.specs.Below.check_frames.specs.Meant.{scope_here}
use Rattle.check_steps.specs.Below.check_frames.specs.Steps.{refused_next, told_onward}
use Rattle.check_named.proofs.Begun.{of_base_class_begun}
use Rattle.check_named.proofs.tested.of_base_class_next.Goals as goal

pub returns : goal.returns
returns c =
    λ place. told_onward c.args.here.setting c.tested_next.result (first_in c.args.refusals.now) (first_in c.class_faults.new.refusals) _ _ (of_base_class_begun c.args.here.setting (scope_here c.args.here) c.args.class.name c.args.class.place c.args.tested place)
    (refused_next c.args.here.setting c.tested_next.result (first_in c.args.refusals.now) (first_in c.class_faults.new.refusals) (class_faults (spec_in c.args.here.setting) c.args.class.name c.args.class.place) _ _ c.class_faults.ensures refl c.tested_next.ensures)
