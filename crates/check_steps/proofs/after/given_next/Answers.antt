use Rattle.std.proofs.Common.{drop, map}
use Rattle.check_frames.specs.Meant.{boxed, scope_here}
use Rattle.check_frames.specs.Steps.{onward}
use Rattle.check_steps.specs.Begun.{given_begun}
use Rattle.check_steps.proofs.after.given_next.Goals as goal

pub returns : goal.returns
returns c =
    onward c.args.here.setting c.part_of.result _ _ (given_begun c.args.here.setting (scope_here c.args.here) (boxed c.args.expr) (drop c.args.next (map boxed c.args.exprs.items)) c.args.after) c.part_of.ensures
