use Rattle.std.proofs.Common.{map}
use Rattle.expr_tree.specs.View.{view_of}
use Rattle.check_frames.specs.Below.check_shapes.specs.ShapeView.{seen_view, shape_view}
use Rattle.check_frames.specs.Meant.{scope_here}
use Rattle.check_frames.specs.Steps.{onward}
use Rattle.check_steps.specs.Placed.{part_at}
use Rattle.check_steps.proofs.parts.item_next.Goals as goal

pub returns : goal.returns
returns c =
    onward c.args.here.setting c.part.result _ _ (part_at c.args.here.setting (scope_here c.args.here) (shape_view c.args.shape) (map seen_view c.args.done.items) (view_of c.args.part.now) c.args.rest _ c.place.ensures) c.part.ensures
