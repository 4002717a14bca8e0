use Rattle.check_steps.specs.Below.check_frames.specs.Meant.{boxed, scope_here}
use Rattle.check_steps.specs.Below.check_frames.specs.Steps.{onward}
use Rattle.check_steps.specs.Listed.{branches_first, branches_last}
use Rattle.check_series.proofs.branching.branches_next.Goals as goal

pub returns-in-empty : goal.returns-in-empty
returns-in-empty c =
    onward c.args.here.setting c.last_next.result _ _ (branches_last c.args.here.setting (scope_here c.args.here) c.args.rest.known c.args.rest.branches.now (boxed c.args.rest.otherwise) c.in-empty.len_below) c.last_next.ensures

pub returns-in-len1-up : goal.returns-in-len1-up
returns-in-len1-up c =
    onward c.args.here.setting c.if_next.result _ _ (branches_first c.args.here.setting (scope_here c.args.here) c.args.rest.known c.args.rest.branches.now c.branch-item.result (boxed c.args.rest.otherwise) c.in-len1-up.len_at_least c.branch-item.is) c.if_next.ensures
