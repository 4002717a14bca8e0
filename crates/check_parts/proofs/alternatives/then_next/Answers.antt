use Rattle.std.proofs.Common.{map}
use Rattle.expr_tree.specs.View.{branch_trees, branch_view}
use Rattle.check_series.specs.Below.check_frames.specs.Meant.{boxed, scope_here}
use Rattle.check_series.specs.Below.check_frames.specs.Steps.{onward}
use Rattle.check_series.specs.Below.check_steps.specs.Begun.{then_begun}
use Rattle.check_parts.proofs.alternatives.then_next.Goals as goal

pub returns : goal.returns
returns c =
    onward c.args.here.setting c.part_of.result _ _ (then_begun c.args.here.setting (scope_here c.args.here) c.args.rest.known (boxed c.args.value) (branch_trees (map branch_view c.args.rest.branches.now)) (boxed c.args.rest.otherwise)) c.part_of.ensures
