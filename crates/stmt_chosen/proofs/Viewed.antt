-- The trees of what stands in lists, by their parts.
use Rattle.std.specs.Prelude.{◌≡◌}
use Rattle.std.proofs.Common.{rules}
use Rattle.expr_tree.specs.View.{boxed_view, pattern_view, pattern_views}
use Rattle.vdm_tree.specs.StmtView.{boxed_stmt, handler_view, stmt_branch_view, stmt_case_view}
use Rattle.vdm_tree.specs.declared.stmt.Handler.{Handler, the_lemmas as handler_lemmas}
use Rattle.vdm_tree.specs.declared.stmt.StmtBranch.{StmtBranch, the_lemmas as branch_lemmas}
use Rattle.vdm_tree.specs.declared.stmt.StmtCase.{StmtCase, the_lemmas as case_lemmas}

pub branch_parts : (b : StmtBranch) → stmt_branch_view b ≡ record { condition = boxed_view b.condition; body = boxed_stmt b.body }
branch_parts b = search (rules, branch_lemmas)

pub case_parts : (c : StmtCase) → stmt_case_view c ≡ record { patterns = pattern_views c.patterns.items; body = boxed_stmt c.body }
case_parts c = search (rules, case_lemmas)

pub handler_parts : (h : Handler) → handler_view h ≡ record { pattern = pattern_view h.pattern.value; body = boxed_stmt h.body }
handler_parts h = search (rules, handler_lemmas)
