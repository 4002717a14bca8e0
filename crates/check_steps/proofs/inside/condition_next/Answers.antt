use Rattle.check_frames.specs.Meant.{boxed, scope_here}
use Rattle.check_frames.specs.Steps.{onward}
use Rattle.check_steps.specs.Placed.{condition_at}
use Rattle.check_steps.proofs.inside.condition_next.Goals as goal

pub returns : goal.returns
returns c =
    onward c.args.here.setting c.part_of.result _ _ (condition_at c.args.here.setting (scope_here c.args.here) (boxed c.args.condition) _ _ c.place_of.ensures) c.part_of.ensures
