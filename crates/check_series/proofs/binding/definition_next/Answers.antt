use Rattle.std.proofs.Common.{map}
use Rattle.expr_tree.specs.View.{defined_view}
use Rattle.check_steps.specs.Below.check_frames.specs.Meant.{boxed, scope_here}
use Rattle.check_steps.specs.Below.check_frames.specs.Steps.{onward}
use Rattle.check_steps.specs.Placed.{value_at}
use Rattle.check_series.proofs.binding.definition_next.Goals as goal

pub returns : goal.returns
returns c =
    onward c.args.here.setting c.part_of.result _ _ (value_at c.args.here.setting (scope_here c.args.here) (boxed c.args.value) (map defined_view c.args.definitions.now) (boxed c.args.body) _ c.place_of.ensures) c.part_of.ensures
