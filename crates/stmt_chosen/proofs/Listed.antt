-- Lists as the program holds them: the check of several is that of the first, and of what stands behind it.
use Rattle.std.specs.Prelude.{◌≡◌, List, ◌∷◌, map}
use Rattle.std.proofs.Common.{◌≤◌, ◌<◌, ◌∙◌, ap, get_or, length}
use Rattle.abstract_syntax.specs.Classes.{SpecTree}
use Rattle.abstract_syntax.specs.Statements.{MaybeStmt, StmtTree}
use Rattle.expr_tree.specs.View.{boxed_view, pattern_view, pattern_views}
use Rattle.vdm_tree.specs.StmtView.{
  HandlerView,
  StmtBranchView,
  StmtCaseView,
  boxed_stmt,
  handler_trees,
  handler_view,
  maybe_stmt,
  stmt_branch_trees,
  stmt_branch_view,
  stmt_case_trees,
  stmt_case_view,
  stmt_trees,
  stmt_view,
  stmt_views,
}
use Rattle.vdm_tree.specs.declared.stmt.Handler.{Handler}
use Rattle.vdm_tree.specs.declared.stmt.Stmt.{Stmt}
use Rattle.vdm_tree.specs.declared.stmt.StmtBranch.{StmtBranch}
use Rattle.vdm_tree.specs.declared.stmt.StmtCase.{StmtCase}
use Rattle.form_meaning.specs.Forms.{FormTree}
use Rattle.class_checks.specs.Results.{after}
use Rattle.spec_checks.specs.Statements.{check_stmt, check_stmts, done, handlers_in, stmt_branches, stmt_cases}
use Rattle.spec_checks.specs.Targets.{StmtScope}
use Rattle.stmt_pending.specs.Below.check_scopes.specs.Told.{spec_in}
use Rattle.stmt_pending.specs.Below.check_scopes.specs.declared.setting.Setting.{Setting}
use Rattle.stmt_exprs.specs.Below.check_steps.specs.Firsts.{first_and_rest, none_left}
use Rattle.stmt_exprs.specs.Below.check_steps.specs.Listed.{behind_first}
use Rattle.stmt_pending.specs.Meant.{branch_check, case_check, cases_check, handler_check, last_check}
use Rattle.stmt_pending.specs.declared.bodies.Cases.{Cases}
use Rattle.stmt_chosen.proofs.Begun.{branches_first, branches_none, cases_first, cases_none, handlers_first, handlers_none, stmts_first, stmts_none}
use Rattle.stmt_chosen.proofs.Viewed.{branch_parts, case_parts, handler_parts}

module _ (spec : SpecTree) (scope : StmtScope) where
  pub no_stmts_left : (ss : List Stmt) → length ss < 1 → check_stmts spec scope (stmt_trees (stmt_views ss)) ≡ done
  no_stmts_left ss below = ap (λ (xs : List Stmt). check_stmts spec scope (stmt_trees (stmt_views xs))) (none_left ss below) ∙ stmts_none spec scope

  pub first_stmt : (ss : List Stmt) (s : Stmt) → 1 ≤ length ss → s ≡ get_or ss 0 s
      → check_stmts spec scope (stmt_trees (stmt_views ss))
      ≡ after (check_stmt spec scope (stmt_view s)) (λ (form : FormTree). check_stmts spec scope (stmt_trees (stmt_views (behind_first ss))))
  first_stmt ss s some is =
      ap (λ (xs : List Stmt). check_stmts spec scope (stmt_trees (stmt_views xs))) (first_and_rest ss s some is)
      ∙ stmts_first spec scope (stmt_view s) (stmt_trees (stmt_views (behind_first ss)))

  pub no_branches_left : (bs : List StmtBranch) (otherwise : MaybeStmt) → length bs < 1
      → stmt_branches spec scope (stmt_branch_trees (map stmt_branch_view bs)) (last_check spec scope otherwise) ≡ last_check spec scope otherwise
  no_branches_left bs otherwise below =
      ap (λ (xs : List StmtBranch). stmt_branches spec scope (stmt_branch_trees (map stmt_branch_view xs)) (last_check spec scope otherwise)) (none_left bs below)
      ∙ branches_none spec scope (last_check spec scope otherwise)

  pub first_branch : (bs : List StmtBranch) (b : StmtBranch) (otherwise : MaybeStmt) → 1 ≤ length bs → b ≡ get_or bs 0 b
      → stmt_branches spec scope (stmt_branch_trees (map stmt_branch_view bs)) (last_check spec scope otherwise)
      ≡ branch_check spec scope (boxed_view b.condition) (boxed_stmt b.body) (stmt_branch_trees (map stmt_branch_view (behind_first bs))) otherwise
  first_branch bs b otherwise some is =
      ap (λ (xs : List StmtBranch). stmt_branches spec scope (stmt_branch_trees (map stmt_branch_view xs)) (last_check spec scope otherwise))
      (first_and_rest bs b some is)
      ∙ ap (λ (v : StmtBranchView).
      stmt_branches spec scope (stmt_branch_trees (v ∷ map stmt_branch_view (behind_first bs))) (last_check spec scope otherwise))
      (branch_parts b)
      ∙ branches_first spec scope (boxed_view b.condition) (boxed_stmt b.body) (stmt_branch_trees (map stmt_branch_view (behind_first bs))) otherwise

  pub no_handlers_left : (hs : List Handler) (body : StmtTree) → length hs < 1
      → handlers_in spec scope (handler_trees (map handler_view hs)) (check_stmt spec scope body) ≡ check_stmt spec scope body
  no_handlers_left hs body below =
      ap (λ (xs : List Handler). handlers_in spec scope (handler_trees (map handler_view xs)) (check_stmt spec scope body)) (none_left hs below)
      ∙ handlers_none spec scope (check_stmt spec scope body)

  pub first_handler : (hs : List Handler) (h : Handler) (body : StmtTree) → 1 ≤ length hs → h ≡ get_or hs 0 h
      → handlers_in spec scope (handler_trees (map handler_view hs)) (check_stmt spec scope body)
      ≡ handler_check spec scope (record { pattern = pattern_view h.pattern.value; body = boxed_stmt h.body }) (handler_trees (map handler_view (behind_first hs))) body
  first_handler hs h body some is =
      ap (λ (xs : List Handler). handlers_in spec scope (handler_trees (map handler_view xs)) (check_stmt spec scope body)) (first_and_rest hs h some is)
      ∙ ap (λ (v : HandlerView). handlers_in spec scope (handler_trees (v ∷ map handler_view (behind_first hs))) (check_stmt spec scope body)) (handler_parts h)
      ∙ handlers_first spec scope (record { pattern = pattern_view h.pattern.value; body = boxed_stmt h.body }) (handler_trees (map handler_view (behind_first hs))) body

module _ (setting : Setting) (scope : StmtScope) where
  pub no_cases_left : (all : Cases) → length all.cases.now < 1
      → cases_check setting scope all ≡ last_check (spec_in setting) scope (maybe_stmt all.others.now)
  no_cases_left all below =
      ap (λ (xs : List StmtCase). stmt_cases (spec_in setting) scope all.form (stmt_case_trees (map stmt_case_view xs)) (last_check (spec_in setting) scope (maybe_stmt all.others.now)))
      (none_left all.cases.now below)
      ∙ cases_none (spec_in setting) scope all.form (last_check (spec_in setting) scope (maybe_stmt all.others.now))

  -- `all` has those that are left behind it
  pub first_case : (cs : List StmtCase) (c : StmtCase) (all : Cases) → cs ≡ c ∷ all.cases.now
      → stmt_cases (spec_in setting) scope all.form (stmt_case_trees (map stmt_case_view cs)) (last_check (spec_in setting) scope (maybe_stmt all.others.now))
      ≡ case_check setting scope (record { patterns = pattern_views c.patterns.items; body = boxed_stmt c.body }) all
  first_case cs c all is =
      ap (λ (xs : List StmtCase). stmt_cases (spec_in setting) scope all.form (stmt_case_trees (map stmt_case_view xs)) (last_check (spec_in setting) scope (maybe_stmt all.others.now))) is
      ∙ ap (λ (v : StmtCaseView). stmt_cases (spec_in setting) scope all.form (stmt_case_trees (v ∷ map stmt_case_view all.cases.now)) (last_check (spec_in setting) scope (maybe_stmt all.others.now)))
      (case_parts c)
      ∙ cases_first setting scope (record { patterns = pattern_views c.patterns.items; body = boxed_stmt c.body }) all
