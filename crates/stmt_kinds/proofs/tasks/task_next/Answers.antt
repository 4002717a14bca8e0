use Rattle.std.proofs.Common.{ap}
use Rattle.stmt_simple.specs.Below.check_scopes.specs.Told.{first_in}
use Rattle.stmt_simple.specs.Below.stmt_scopes.specs.Standing.{stands_here}
use Rattle.stmt_bound.specs.Below.stmt_pending.specs.Meant.{task_check}
use Rattle.stmt_bound.specs.Below.stmt_pending.specs.Steps.{next_onward, next_same}
use Rattle.stmt_kinds.proofs.tasks.task_next.Goals as goal

pub returns-in-Stmt : goal.returns-in-Stmt
returns-in-Stmt c =
    next_onward c.args.stands.here.setting c.args.stands.returned.now c.stmt_next.result (first_in c.args.refusals.now) (first_in c.stmt_next.new.refusals) _ _
    (ap (task_check c.args.stands.here.setting (stands_here c.args.stands)) c.in-Stmt.is) c.stmt_next.ensures

pub returns-in-Stmts : goal.returns-in-Stmts
returns-in-Stmts c =
    next_same c.args.stands.here.setting c.args.stands.returned.now c.stmts_next.result (first_in c.args.refusals.now) _ _
    (ap (task_check c.args.stands.here.setting (stands_here c.args.stands)) c.in-Stmts.is) c.stmts_next.ensures

pub returns-in-Branches : goal.returns-in-Branches
returns-in-Branches c =
    next_onward c.args.stands.here.setting c.args.stands.returned.now c.branches_next.result (first_in c.args.refusals.now) (first_in c.branches_next.new.refusals) _ _
    (ap (task_check c.args.stands.here.setting (stands_here c.args.stands)) c.in-Branches.is) c.branches_next.ensures

pub returns-in-Cases : goal.returns-in-Cases
returns-in-Cases c =
    next_onward c.args.stands.here.setting c.args.stands.returned.now c.cases_next.result (first_in c.args.refusals.now) (first_in c.cases_next.new.refusals) _ _
    (ap (task_check c.args.stands.here.setting (stands_here c.args.stands)) c.in-Cases.is) c.cases_next.ensures

pub returns-in-Bodies : goal.returns-in-Bodies
returns-in-Bodies c =
    next_onward c.args.stands.here.setting c.args.stands.returned.now c.bodies_next.result (first_in c.args.refusals.now) (first_in c.bodies_next.new.refusals) _ _
    (ap (task_check c.args.stands.here.setting (stands_here c.args.stands)) c.in-Bodies.is) c.bodies_next.ensures

pub returns-in-Handlers : goal.returns-in-Handlers
returns-in-Handlers c =
    next_onward c.args.stands.here.setting c.args.stands.returned.now c.handlers_next.result (first_in c.args.refusals.now) (first_in c.handlers_next.new.refusals) _ _
    (ap (task_check c.args.stands.here.setting (stands_here c.args.stands)) c.in-Handlers.is) c.handlers_next.ensures
