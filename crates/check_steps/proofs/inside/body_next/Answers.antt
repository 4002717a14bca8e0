use Rattle.std.proofs.Common.{List, ap, map, sym, ◌∙◌}
use Rattle.check_frames.specs.Below.check_shapes.specs.ShapeView.{seen_view, shape_view}
use Rattle.check_frames.specs.Below.check_shapes.specs.declared.shape.Seen.{Seen as SeenPart}
use Rattle.check_frames.specs.Meant.{body_check, rest_check, scope_here}
use Rattle.check_frames.specs.Steps.{onward}
use Rattle.check_steps.proofs.inside.body_next.Goals as goal

pub returns-in-Parts : goal.returns-in-Parts
returns-in-Parts c =
    onward c.args.here.setting c.rest_next.result _ _ (ap (body_check c.args.here.setting (scope_here c.args.here)) c.in-Parts.is ∙ ap (λ (d : List SeenPart). rest_check c.args.here.setting (scope_here c.args.here) (shape_view c.in-Parts.shape) (map seen_view d) c.in-Parts.rest) (sym c.new.ensures.items)) c.rest_next.ensures
