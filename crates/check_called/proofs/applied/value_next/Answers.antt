use Rattle.check_steps.specs.Below.check_frames.specs.Meant.{boxed, scope_here}
use Rattle.check_steps.specs.Below.check_frames.specs.Steps.{onward}
use Rattle.check_called.proofs.Called.{value_at}
use Rattle.check_called.proofs.applied.value_next.Goals as goal

pub returns : goal.returns
returns c =
    onward c.args.here.setting c.part_of.result _ _ (value_at c.args.here.setting (scope_here c.args.here) (boxed c.args.head) c.args.arguments _ c.args.place c.place_of.ensures) c.part_of.ensures
