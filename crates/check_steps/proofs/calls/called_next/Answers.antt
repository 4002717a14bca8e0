use Rattle.std.proofs.Common.{List, ap, map, sym}
use Rattle.class_checks.specs.Shapes.{of_call}
use Rattle.type_forms.specs.Tree.{form_trees}
use Rattle.check_frames.specs.Below.check_shapes.specs.ShapeView.{seen_view}
use Rattle.check_frames.specs.Below.check_shapes.specs.declared.shape.Seen.{Seen as SeenPart}
use Rattle.check_frames.specs.Meant.{rest_check, scope_here}
use Rattle.check_frames.specs.Steps.{onward}
use Rattle.check_steps.proofs.calls.called_next.Goals as goal

pub returns : goal.returns
returns c =
    onward c.args.here.setting c.rest_next.result _ _ (ap (λ (d : List SeenPart). rest_check c.args.here.setting (scope_here c.args.here) (of_call (form_trees c.args.callee.wants.items) c.args.callee.result) (map seen_view d) c.args.arguments) (sym c.new.ensures.items)) c.rest_next.ensures
