use Rattle.std.proofs.Common.{map}
use Rattle.expr_tree.specs.View.{branch_trees, branch_view}
use Rattle.check_steps.specs.Below.check_frames.specs.Meant.{boxed, scope_here}
use Rattle.check_steps.specs.Below.check_frames.specs.Steps.{onward}
use Rattle.check_steps.specs.Placed.{branch_at}
use Rattle.check_series.proofs.branching.if_next.Goals as goal

pub returns : goal.returns
returns c =
    onward c.args.here.setting c.part_of.result _ _ (branch_at c.args.here.setting (scope_here c.args.here) c.args.rest.known (boxed c.args.condition) (boxed c.args.value) (branch_trees (map branch_view c.args.rest.branches.now)) (boxed c.args.rest.otherwise) _ c.place_of.ensures) c.part_of.ensures
