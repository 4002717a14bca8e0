use Rattle.std.proofs.Common.{map}
use Rattle.check_frames.specs.Below.check_shapes.specs.ShapeView.{seen_view, shape_view}
use Rattle.check_frames.specs.Meant.{scope_here}
use Rattle.check_frames.specs.Steps.{onward}
use Rattle.check_steps.specs.Listed.{items_first, items_none}
use Rattle.check_steps.proofs.parts.items_next.Goals as goal

pub returns-in-empty : goal.returns-in-empty
returns-in-empty c =
    onward c.args.here.setting c.no_next.result _ _ (items_none c.args.here.setting (scope_here c.args.here) (shape_view c.args.shape) (map seen_view c.args.done.items) c.args.items.now c.in-empty.len_below) c.no_next.ensures

pub returns-in-len1-up : goal.returns-in-len1-up
returns-in-len1-up c =
    onward c.args.here.setting c.item_next.result _ _ (items_first c.args.here.setting (scope_here c.args.here) (shape_view c.args.shape) (map seen_view c.args.done.items) c.args.items.now c.part-item.result c.in-len1-up.len_at_least c.part-item.is) c.item_next.ensures
