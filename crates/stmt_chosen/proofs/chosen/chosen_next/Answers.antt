use Rattle.std.proofs.Common.{List, ap, map, sym, ◌∙◌}
use Rattle.expr_tree.specs.View.{boxed_view}
use Rattle.vdm_tree.specs.StmtView.{boxed_stmt, handler_trees, handler_view, maybe_stmt, stmt_branch_trees, stmt_branch_view, stmt_trees, stmt_view, stmt_views}
use Rattle.vdm_tree.specs.declared.stmt.Handler.{Handler}
use Rattle.vdm_tree.specs.declared.stmt.Stmt.{Stmt}
use Rattle.vdm_tree.specs.declared.stmt.StmtBranch.{StmtBranch}
use Rattle.spec_checks.specs.Statements.{check_stmt, check_stmts, handlers_in}
use Rattle.stmt_pending.specs.Below.check_scopes.specs.Told.{first_in}
use Rattle.stmt_pending.specs.Below.check_frames.specs.Meant.{spec_here}
use Rattle.stmt_pending.specs.Below.stmt_scopes.specs.Standing.{stands_here}
use Rattle.stmt_pending.specs.Meant.{branch_check}
use Rattle.stmt_pending.specs.Steps.{next_onward, next_same}
use Rattle.stmt_chosen.proofs.Begun.{if_begun, parallel_begun, tixe_begun}
use Rattle.stmt_chosen.proofs.Views.{view-Always, view-Cases, view-If, view-Parallel, view-Tixe, view-While}
use Rattle.stmt_chosen.proofs.chosen.chosen_next.Goals as goal

pub returns-in-If : goal.returns-in-If
returns-in-If c =
    next_onward c.args.stands.here.setting c.args.stands.returned.now c.branch_next.result (first_in c.args.refusals.now) (first_in c.branch_next.new.refusals) _ _
    (ap (check_stmt (spec_here c.args.stands.here) (stands_here c.args.stands)) (ap stmt_view c.in-If.is ∙ view-If _ _ _ _ _)
    ∙ if_begun (spec_here c.args.stands.here) (stands_here c.args.stands) _ _ _ _ _
    ∙ ap (λ (bs : List StmtBranch). branch_check (spec_here c.args.stands.here) (stands_here c.args.stands) (boxed_view c.in-If.condition) (boxed_stmt c.in-If.body) (stmt_branch_trees (map stmt_branch_view bs)) (maybe_stmt c.in-If.otherwise)) (sym c.as_slice-branches.ensures.value))
    c.branch_next.ensures

pub returns-in-Cases : goal.returns-in-Cases
returns-in-Cases c =
    next_onward c.args.stands.here.setting c.args.stands.returned.now c.subject_next.result (first_in c.args.refusals.now) (first_in c.subject_next.new.refusals) _ _
    (ap (check_stmt (spec_here c.args.stands.here) (stands_here c.args.stands)) (ap stmt_view c.in-Cases.is ∙ view-Cases _ _ _ _))
    (c.subject_next.ensures _)

pub returns-in-While : goal.returns-in-While
returns-in-While c =
    next_onward c.args.stands.here.setting c.args.stands.returned.now c.while_next.result (first_in c.args.refusals.now) (first_in c.while_next.new.refusals) _ _
    (ap (check_stmt (spec_here c.args.stands.here) (stands_here c.args.stands)) (ap stmt_view c.in-While.is ∙ view-While _ _ _))
    (c.while_next.ensures _)

pub returns-in-Tixe : goal.returns-in-Tixe
returns-in-Tixe c =
    next_onward c.args.stands.here.setting c.args.stands.returned.now c.handlers_next.result (first_in c.args.refusals.now) (first_in c.handlers_next.new.refusals) _ _
    (ap (check_stmt (spec_here c.args.stands.here) (stands_here c.args.stands)) (ap stmt_view c.in-Tixe.is ∙ view-Tixe _ _ _)
    ∙ tixe_begun (spec_here c.args.stands.here) (stands_here c.args.stands) _ _ _
    ∙ ap (λ (hs : List Handler). handlers_in (spec_here c.args.stands.here) (stands_here c.args.stands) (handler_trees (map handler_view hs)) (check_stmt (spec_here c.args.stands.here) (stands_here c.args.stands) (boxed_stmt c.in-Tixe.body))) (sym c.as_slice.ensures.value))
    c.handlers_next.ensures

pub returns-in-Always : goal.returns-in-Always
returns-in-Always c =
    next_same c.args.stands.here.setting c.args.stands.returned.now c.always_next.result (first_in c.args.refusals.now) _ _
    (ap (check_stmt (spec_here c.args.stands.here) (stands_here c.args.stands)) (ap stmt_view c.in-Always.is ∙ view-Always _ _ _))
    (c.always_next.ensures _)

pub returns-in-Parallel : goal.returns-in-Parallel
returns-in-Parallel c =
    next_same c.args.stands.here.setting c.args.stands.returned.now c.stmts_next.result (first_in c.args.refusals.now) _ _
    (ap (check_stmt (spec_here c.args.stands.here) (stands_here c.args.stands)) (ap stmt_view c.in-Parallel.is ∙ view-Parallel _ _)
    ∙ parallel_begun (spec_here c.args.stands.here) (stands_here c.args.stands) _ _
    ∙ ap (λ (ss : List Stmt). check_stmts (spec_here c.args.stands.here) (stands_here c.args.stands) (stmt_trees (stmt_views ss))) (sym c.as_slice-in-Parallel.ensures.value))
    c.stmts_next.ensures
