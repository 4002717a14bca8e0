use Rattle.check_steps.specs.Below.check_frames.specs.Meant.{boxed, scope_here}
use Rattle.check_steps.specs.Below.check_frames.specs.Steps.{onward}
use Rattle.check_steps.specs.Begun.{last_begun}
use Rattle.check_series.proofs.branching.last_next.Goals as goal

pub returns : goal.returns
returns c =
    onward c.args.here.setting c.part_of.result _ _ (last_begun c.args.here.setting (scope_here c.args.here) c.args.known (boxed c.args.last)) c.part_of.ensures
