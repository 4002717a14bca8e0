use Rattle.std.proofs.Common.{ap, sym, ◌∙◌}
use Rattle.vdm_tree.specs.StmtView.{stmt_view}
use Rattle.spec_checks.specs.Statements.{check_stmt}
use Rattle.stmt_targets.specs.Below.check_scopes.specs.Told.{first_in}
use Rattle.stmt_targets.specs.Below.check_frames.specs.Meant.{spec_here}
use Rattle.stmt_targets.specs.Below.stmt_scopes.specs.Refused.{refused, refused_same}
use Rattle.stmt_targets.specs.Below.stmt_scopes.specs.Standing.{stands_here}
use Rattle.stmt_simple.proofs.Begun.{assign_begun, error_begun, skip_begun}
use Rattle.stmt_simple.proofs.Views.{view-Assign, view-AssignTogether, view-Call, view-Error, view-Exit, view-Return, view-Skip, view-Start, view-StartList}
use Rattle.stmt_simple.proofs.simple.refuse_simple.Goals as goal

pub returns-in-Assign : goal.returns-in-Assign
returns-in-Assign c =
    refused_same c.refuse_assigned.result (first_in c.args.refusals.now) (first_in c.refuse_assigned.new.refusals) _ _
    (ap (check_stmt (spec_here c.args.stands.here) (stands_here c.args.stands)) (ap stmt_view c.in-Assign.is ∙ view-Assign _ _ _) ∙ assign_begun (spec_here c.args.stands.here) (stands_here c.args.stands) _ _ _)
    c.refuse_assigned.ensures

pub returns-in-AssignTogether : goal.returns-in-AssignTogether
returns-in-AssignTogether c =
    refused_same c.refuse_together.result (first_in c.args.refusals.now) (first_in c.refuse_together.new.refusals) _ _
    (ap (check_stmt (spec_here c.args.stands.here) (stands_here c.args.stands)) (ap stmt_view c.in-AssignTogether.is ∙ view-AssignTogether _ _))
    (c.refuse_together.ensures _)

pub returns-in-Call : goal.returns-in-Call
returns-in-Call c =
    refused_same c.refuse_call.result (first_in c.args.refusals.now) (first_in c.refuse_call.new.refusals) _ _
    (ap (check_stmt (spec_here c.args.stands.here) (stands_here c.args.stands)) (ap stmt_view c.in-Call.is ∙ view-Call _ _))
    (c.refuse_call.ensures _)

pub returns-in-Return : goal.returns-in-Return
returns-in-Return c =
    refused_same c.refuse_return.result (first_in c.args.refusals.now) (first_in c.refuse_return.new.refusals) _ _
    (ap (check_stmt (spec_here c.args.stands.here) (stands_here c.args.stands)) (ap stmt_view c.in-Return.is ∙ view-Return _ _))
    (c.refuse_return.ensures _)

pub returns-in-Exit : goal.returns-in-Exit
returns-in-Exit c =
    refused_same c.refuse_exit.result (first_in c.args.refusals.now) (first_in c.refuse_exit.new.refusals) _ _
    (ap (check_stmt (spec_here c.args.stands.here) (stands_here c.args.stands)) (ap stmt_view c.in-Exit.is ∙ view-Exit _ _))
    (c.refuse_exit.ensures _)

pub returns-in-Start : goal.returns-in-Start
returns-in-Start c =
    refused_same c.refuse_start.result (first_in c.args.refusals.now) (first_in c.refuse_start.new.refusals) _ _
    (ap (check_stmt (spec_here c.args.stands.here) (stands_here c.args.stands)) (ap stmt_view c.in-Start.is ∙ view-Start _ _))
    (c.refuse_start.ensures _)

pub returns-in-StartList : goal.returns-in-StartList
returns-in-StartList c =
    refused_same c.refuse_start_list.result (first_in c.args.refusals.now) (first_in c.refuse_start_list.new.refusals) _ _
    (ap (check_stmt (spec_here c.args.stands.here) (stands_here c.args.stands)) (ap stmt_view c.in-StartList.is ∙ view-StartList _ _))
    (c.refuse_start_list.ensures _)

pub returns-in-Skip : goal.returns-in-Skip
returns-in-Skip c =
    ap (refused (first_in c.args.refusals.now)) (sym (ap (check_stmt (spec_here c.args.stands.here) (stands_here c.args.stands)) (ap stmt_view c.in-Skip.is ∙ view-Skip _) ∙ skip_begun (spec_here c.args.stands.here) (stands_here c.args.stands) _))

pub returns-in-Error : goal.returns-in-Error
returns-in-Error c =
    ap (refused (first_in c.args.refusals.now)) (sym (ap (check_stmt (spec_here c.args.stands.here) (stands_here c.args.stands)) (ap stmt_view c.in-Error.is ∙ view-Error _) ∙ error_begun (spec_here c.args.stands.here) (stands_here c.args.stands) _))
