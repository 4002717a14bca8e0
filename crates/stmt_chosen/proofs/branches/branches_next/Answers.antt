use Rattle.vdm_tree.specs.StmtView.{maybe_stmt}
use Rattle.stmt_pending.specs.Below.check_scopes.specs.Told.{first_in}
use Rattle.stmt_pending.specs.Below.check_frames.specs.Meant.{spec_here}
use Rattle.stmt_pending.specs.Below.stmt_scopes.specs.Standing.{stands_here}
use Rattle.stmt_pending.specs.Steps.{next_onward, next_told}
use Rattle.stmt_chosen.proofs.Listed.{first_branch, no_branches_left}
use Rattle.stmt_chosen.proofs.branches.branches_next.Goals as goal

pub returns-in-empty : goal.returns-in-empty
returns-in-empty c =
    next_told c.args.stands.here.setting c.args.stands.returned.now c.maybe_next.result (first_in c.args.refusals.now) _ _
    (no_branches_left (spec_here c.args.stands.here) (stands_here c.args.stands) c.args.branches.now (maybe_stmt c.args.otherwise.now) c.in-empty.len_below)
    c.maybe_next.ensures

pub returns-in-len1-up : goal.returns-in-len1-up
returns-in-len1-up c =
    next_onward c.args.stands.here.setting c.args.stands.returned.now c.branch_next.result (first_in c.args.refusals.now) (first_in c.branch_next.new.refusals) _ _
    (first_branch (spec_here c.args.stands.here) (stands_here c.args.stands) c.args.branches.now c.branch-item.result (maybe_stmt c.args.otherwise.now) c.in-len1-up.len_at_least c.branch-item.is)
    c.branch_next.ensures
