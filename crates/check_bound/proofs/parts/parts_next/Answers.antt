use Rattle.std.proofs.Common.{List, ap, map, sym, ◌∙◌}
use Rattle.check_frames.specs.Below.check_shapes.specs.ShapeView.{seen_view, shape_view}
use Rattle.check_frames.specs.Below.check_shapes.specs.declared.shape.Seen.{Seen as SeenPart}
use Rattle.check_frames.specs.Meant.{rest_check, scope_here}
use Rattle.check_frames.specs.Steps.{onward}
use Rattle.check_bound.proofs.parts.parts_next.Goals as goal

pub returns : goal.returns
returns c =
    onward c.args.here.setting c.rest_next.result _ _ (c.parts_of-shape.ensures c.args.here.setting (scope_here c.args.here) ∙ ap (λ (d : List SeenPart). rest_check c.args.here.setting (scope_here c.args.here) (shape_view c.parts_of-shape.result.shape) (map seen_view d) c.parts_of-shape.result.rest) (sym c.new.ensures.items)) c.rest_next.ensures
