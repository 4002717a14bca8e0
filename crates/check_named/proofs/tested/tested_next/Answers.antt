use Rattle.std.proofs.Common.{List, ap, map, sym}
use Rattle.class_checks.specs.Shapes.{of_test}
use Rattle.check_steps.specs.Below.check_shapes.specs.ShapeView.{seen_view}
use Rattle.check_steps.specs.Below.check_shapes.specs.declared.shape.Seen.{Seen as SeenPart}
use Rattle.check_steps.specs.Below.check_frames.specs.Meant.{rest_check, scope_here}
use Rattle.check_steps.specs.Below.check_frames.specs.Steps.{onward}
use Rattle.check_steps.specs.Below.check_frames.specs.declared.rest.Rest.TheVariants.{One}
use Rattle.check_named.proofs.tested.tested_next.Goals as goal

pub returns : goal.returns
returns c =
    onward c.args.here.setting c.rest_next.result _ _ (ap (λ (d : List SeenPart). rest_check c.args.here.setting (scope_here c.args.here) of_test (map seen_view d) (One c.args.tested)) (sym c.new.ensures.items)) c.rest_next.ensures
