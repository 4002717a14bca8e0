use Rattle.std.proofs.Common.{map}
use Rattle.check_frames.specs.Below.check_shapes.specs.ShapeView.{names_of, seen_view}
use Rattle.check_frames.specs.Meant.{scope_here}
use Rattle.check_frames.specs.Steps.{onward}
use Rattle.check_steps.specs.Listed.{fields_first, fields_none}
use Rattle.check_steps.proofs.parts.fields_next.Goals as goal

pub returns-in-empty : goal.returns-in-empty
returns-in-empty c =
    onward c.args.here.setting c.no_next.result _ _ (fields_none c.args.here.setting (scope_here c.args.here) (names_of c.args.changed.now.items) (map seen_view c.args.done.items) c.args.values.now c.in-empty.len_below) c.no_next.ensures

pub returns-in-len1-up : goal.returns-in-len1-up
returns-in-len1-up c =
    onward c.args.here.setting c.part_next.result _ _ (fields_first c.args.here.setting (scope_here c.args.here) (names_of c.args.changed.now.items) (map seen_view c.args.done.items) c.args.values.now c.field-item.result c.in-len1-up.len_at_least c.field-item.is) c.part_next.ensures
