-- Lists of parts as trees.
use Rattle.std.proofs.Common.{◌≡◌, List, [], ◌∷◌, map, refl, ap}
use Rattle.abstract_syntax.specs.Statements.{StmtTree, one_stmt, one_handler, one_stmt_branch, one_stmt_case, no_stmt_branches, no_stmt_cases}
use Rattle.vdm_tree.specs.declared.stmt.Handler.{Handler}
use Rattle.vdm_tree.specs.declared.stmt.StmtBranch.{StmtBranch}
use Rattle.vdm_tree.specs.declared.stmt.StmtCase.{StmtCase}
use Rattle.vdm_tree.specs.StmtView.{handler_trees, handler_view, stmt_branch_trees, stmt_branch_view, stmt_case_trees, stmt_case_view, stmt_trees}
use Rattle.expr_tree.specs.View.{pattern_trees}
use Rattle.stmt_reading.specs.Statements.{handlers_tree, stmts_tree}
use Rattle.stmt_builder.specs.Lists.{branch_row, branches_before, case_row, cases_before, handler_row}

pub same_stmts : (ss : List StmtTree) → stmts_tree ss ≡ stmt_trees ss
same_stmts [] = refl
same_stmts (s ∷ ss) = ap (one_stmt s) (same_stmts ss)

pub same_handlers : (hs : List Handler) → handlers_tree (map handler_row hs) ≡ handler_trees (map handler_view hs)
same_handlers [] = refl
same_handlers (h ∷ hs) = ap (one_handler (handler_view h).pattern (handler_view h).body) (same_handlers hs)

pub same_branches : (bs : List StmtBranch) → branches_before (map branch_row bs) no_stmt_branches ≡ stmt_branch_trees (map stmt_branch_view bs)
same_branches [] = refl
same_branches (b ∷ bs) = ap (one_stmt_branch (stmt_branch_view b).condition (stmt_branch_view b).body) (same_branches bs)

pub same_cases : (cs : List StmtCase) → cases_before (map case_row cs) no_stmt_cases ≡ stmt_case_trees (map stmt_case_view cs)
same_cases [] = refl
same_cases (c ∷ cs) = ap (one_stmt_case (pattern_trees (stmt_case_view c).patterns) (stmt_case_view c).body) (same_cases cs)
