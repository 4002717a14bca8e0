use Rattle.std.proofs.Common.{◌≡◌, map, drop}
use Rattle.text_phases.specs.Built.{unbuilt_in_stmts, unbuilt_in_branch_stmts, unbuilt_in_case_stmts, unbuilt_in_handlers}
use Rattle.vdm_tree.specs.StmtView.{stmt_views, stmt_trees, stmt_branch_view, stmt_branch_trees, stmt_case_view, stmt_case_trees, handler_view, handler_trees}
use Rattle.built_forms.proofs.statements.+unbuilt.Given as goal

-- in each list: those so far are built, so that the rest decides
abbrev pub invariant-unbuilt_in_stmts-loop-statement : goal.invariant-unbuilt_in_stmts-loop-statement
invariant-unbuilt_in_stmts-loop-statement l =
    unbuilt_in_stmts (stmt_trees (stmt_views (drop l.statement-index l.statements)))
    ≡ unbuilt_in_stmts (stmt_trees (stmt_views l.statements))

abbrev pub invariant-unbuilt_in_branches-loop-branch : goal.invariant-unbuilt_in_branches-loop-branch
invariant-unbuilt_in_branches-loop-branch l =
    unbuilt_in_branch_stmts (stmt_branch_trees (map stmt_branch_view (drop l.branch-index l.branches)))
    ≡ unbuilt_in_branch_stmts (stmt_branch_trees (map stmt_branch_view l.branches))

abbrev pub invariant-unbuilt_in_cases-loop-case : goal.invariant-unbuilt_in_cases-loop-case
invariant-unbuilt_in_cases-loop-case l =
    unbuilt_in_case_stmts (stmt_case_trees (map stmt_case_view (drop l.case-index l.cases)))
    ≡ unbuilt_in_case_stmts (stmt_case_trees (map stmt_case_view l.cases))

abbrev pub invariant-unbuilt_in_handlers-loop-handler : goal.invariant-unbuilt_in_handlers-loop-handler
invariant-unbuilt_in_handlers-loop-handler l =
    unbuilt_in_handlers (handler_trees (map handler_view (drop l.handler-index l.handlers)))
    ≡ unbuilt_in_handlers (handler_trees (map handler_view l.handlers))
