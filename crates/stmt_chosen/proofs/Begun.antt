-- The check of each kind of statement that chooses between others or stands round them, by what comes first of it; and of lists of
-- these.
use Rattle.std.specs.Prelude.{◌≡◌, List, [], ◌∷◌, Bool, drop, map}
use Rattle.std.proofs.Common.{ap, refl}
use Rattle.vdm_kinds.specs.declared.name.Name.{Name}
use Rattle.vdm_kinds.specs.declared.place.Place.{Place}
use Rattle.abstract_syntax.specs.Expressions.{ExprTree}
use Rattle.abstract_syntax.specs.Classes.{SpecTree}
use Rattle.abstract_syntax.specs.Statements.{
  HandlerTrees,
  MaybeStmt,
  StmtBranches,
  StmtCases,
  StmtTree,
  StmtTrees,
  always_after,
  cases_then,
  if_then,
  in_parallel,
  no_handlers,
  no_stmt_branches,
  no_stmt_cases,
  no_stmts,
  one_handler,
  one_stmt,
  one_stmt_branch,
  one_stmt_case,
  trap_exits,
  while_do,
}
use Rattle.expr_tree.specs.View.{pattern_trees}
use Rattle.vdm_tree.specs.StmtView.{HandlerView, StmtCaseView, maybe_stmt, stmt_case_trees, stmt_case_view}
use Rattle.form_meaning.specs.Forms.{FormTree, any_form}
use Rattle.class_checks.specs.Expressions.{check, givens, givens_each}
use Rattle.class_checks.specs.Operators.{truth}
use Rattle.class_checks.specs.Patterns.{bindings_of, pattern_faults, patterns_faults, scopes_behind}
use Rattle.class_checks.specs.Results.{Checked, after, refusing}
use Rattle.class_checks.specs.Scopes.{ScopeTree, type_scope}
use Rattle.spec_checks.specs.Statements.{check_stmt, check_stmts, done, handlers_in, inside_pattern, stmt_branches, stmt_cases, wanting}
use Rattle.spec_checks.specs.Targets.{StmtScope, hidden_by, patterns_names}
use Rattle.stmt_pending.specs.Below.check_frames.specs.Meant.{at}
use Rattle.stmt_pending.specs.Below.check_scopes.specs.Told.{spec_in}
use Rattle.stmt_pending.specs.Below.check_scopes.specs.declared.setting.Setting.{Setting}
use Rattle.stmt_pending.specs.Below.stmt_scopes.specs.Standing.{declared_in}
use Rattle.stmt_pending.specs.Meant.{behind_check, bodies_check, bodies_in, body_check, boxed, branch_check, case_check, cases_check, handler_check, last_check, scoped}
use Rattle.stmt_pending.specs.declared.bodies.Bodies.{Bodies}
use Rattle.stmt_pending.specs.declared.bodies.Cases.{Cases}

module _ (spec : SpecTree) (scope : StmtScope) where
  -- ---- by kinds

  pub if_begun : (condition : ExprTree) (body : StmtTree) (elseifs : StmtBranches) (otherwise : MaybeStmt) (place : Place)
      → check_stmt spec scope (if_then condition body elseifs otherwise place) ≡ branch_check spec scope condition body elseifs otherwise
  unfolding check_stmt branch_check
  if_begun condition body elseifs otherwise place = refl

  pub cases_begun : (subject : ExprTree) (cases : StmtCases) (others : MaybeStmt) (place : Place)
      → check_stmt spec scope (cases_then subject cases others place)
      ≡ after (check spec scope.within subject) (λ (form : FormTree). stmt_cases spec scope form cases (last_check spec scope others))
  unfolding check_stmt
  cases_begun subject cases others place = refl

  pub while_begun : (condition : ExprTree) (body : StmtTree) (place : Place)
      → check_stmt spec scope (while_do condition body place) ≡ wanting spec scope truth condition (check_stmt spec scope body)
  unfolding check_stmt
  while_begun condition body place = refl

  pub tixe_begun : (handlers : HandlerTrees) (body : StmtTree) (place : Place)
      → check_stmt spec scope (trap_exits handlers body place) ≡ handlers_in spec scope handlers (check_stmt spec scope body)
  unfolding check_stmt
  tixe_begun _ body place = refl

  pub always_begun : (last body : StmtTree) (place : Place)
      → check_stmt spec scope (always_after last body place) ≡ after (check_stmt spec scope last) (λ (form : FormTree). check_stmt spec scope body)
  unfolding check_stmt
  always_begun last body place = refl

  pub parallel_begun : (stmts : StmtTrees) (place : Place) → check_stmt spec scope (in_parallel stmts place) ≡ check_stmts spec scope stmts
  unfolding check_stmt
  parallel_begun stmts place = refl

  -- ---- lists

  pub stmts_none : check_stmts spec scope no_stmts ≡ done
  unfolding check_stmt
  stmts_none = refl

  pub stmts_first : (stmt : StmtTree) (stmts : StmtTrees)
      → check_stmts spec scope (one_stmt stmt stmts) ≡ after (check_stmt spec scope stmt) (λ (form : FormTree). check_stmts spec scope stmts)
  unfolding check_stmt
  stmts_first stmt stmts = refl

  pub branches_none : (rest : Checked) → stmt_branches spec scope no_stmt_branches rest ≡ rest
  unfolding check_stmt
  branches_none rest = refl

  pub branches_first : (condition : ExprTree) (body : StmtTree) (more : StmtBranches) (otherwise : MaybeStmt)
      → stmt_branches spec scope (one_stmt_branch condition body more) (last_check spec scope otherwise)
      ≡ branch_check spec scope condition body more otherwise
  unfolding check_stmt branch_check
  branches_first condition body more otherwise = refl

  -- a condition was true or not: the statement behind it, and the branches that are left
  pub branch_begun : (condition : ExprTree) (body : StmtTree) (more : StmtBranches) (otherwise : MaybeStmt)
      → branch_check spec scope condition body more otherwise
      ≡ wanting spec scope truth condition
      (after (check_stmt spec scope body) (λ (form : FormTree). stmt_branches spec scope more (last_check spec scope otherwise)))
  unfolding branch_check
  branch_begun condition body more otherwise = refl

  pub handlers_none : (rest : Checked) → handlers_in spec scope no_handlers rest ≡ rest
  unfolding check_stmt
  handlers_none rest = refl

  pub handlers_first : (handler : HandlerView) (more : HandlerTrees) (body : StmtTree)
      → handlers_in spec scope (one_handler handler.pattern handler.body more) (check_stmt spec scope body)
      ≡ handler_check spec scope handler more body
  unfolding check_stmt handler_check
  handlers_first handler more body = refl

  -- what is refused in the pattern of a handler, the statement behind it, and what follows
  pub handler_begun : (handler : HandlerView) (more : HandlerTrees) (body : StmtTree)
      → handler_check spec scope handler more body
      ≡ refusing (pattern_faults spec (type_scope scope.within) handler.pattern)
      (givens spec scope.within handler.pattern
      (after (check_stmt spec (inside_pattern spec scope any_form handler.pattern) handler.body) (λ (form : FormTree).
      handlers_in spec scope more (check_stmt spec scope body))))
  unfolding handler_check
  handler_begun handler more body = refl

  pub cases_none : (form : FormTree) (rest : Checked) → stmt_cases spec scope form no_stmt_cases rest ≡ rest
  unfolding check_stmt
  cases_none form rest = refl

module _ (setting : Setting) (scope : StmtScope) where
  -- an alternative, and those behind it
  pub cases_first : (case : StmtCaseView) (all : Cases)
      → stmt_cases (spec_in setting) scope all.form
      (one_stmt_case (pattern_trees case.patterns) case.body (stmt_case_trees (map stmt_case_view all.cases.now)))
      (last_check (spec_in setting) scope (maybe_stmt all.others.now))
      ≡ case_check setting scope case all
  unfolding check_stmt case_check behind_check
  cases_first case all = refl

  -- what is refused in its patterns, and then what stands behind them
  pub case_begun : (case : StmtCaseView) (all : Cases)
      → case_check setting scope case all
      ≡ refusing (patterns_faults (spec_in setting) (type_scope scope.within) (pattern_trees case.patterns))
      (givens_each (spec_in setting) scope.within (pattern_trees case.patterns) (behind_check setting scope case all))
  unfolding case_check
  case_begun case all = refl

  pub behind_begun : (case : StmtCaseView) (all : Cases)
      → behind_check setting scope case all
      ≡ bodies_in setting scope (hidden_by (patterns_names (pattern_trees case.patterns)) scope.declared) case.body
      (scopes_behind scope.within (bindings_of (spec_in setting) (type_scope scope.within) all.form (pattern_trees case.patterns))) all
  unfolding behind_check
  behind_begun case all = refl

  -- the scopes behind its patterns, one behind the other
  pub no_bodies : (declared : Name → Bool) (body : StmtTree) (scopes : List ScopeTree) (all : Cases) → scopes ≡ []
      → bodies_in setting scope declared body scopes all ≡ cases_check setting scope all
  no_bodies declared body scopes all is = ap (λ (ws : List ScopeTree). bodies_in setting scope declared body ws all) is

  pub first_body : (scopes : List ScopeTree) (within : ScopeTree) (bodies : Bodies)
      → scopes ≡ within ∷ drop bodies.next (map (at setting) bodies.scopes.items)
      → bodies_in setting scope (declared_in bodies.declared) (boxed bodies.body) scopes bodies.all ≡ body_check setting scope within bodies
  unfolding body_check
  first_body scopes within bodies is =
      ap (λ (ws : List ScopeTree). bodies_in setting scope (declared_in bodies.declared) (boxed bodies.body) ws bodies.all) is

  pub body_begun : (within : ScopeTree) (bodies : Bodies)
      → body_check setting scope within bodies
      ≡ after (check_stmt (spec_in setting) (scoped scope (declared_in bodies.declared) within) (boxed bodies.body)) (λ (form : FormTree).
      bodies_check setting scope bodies)
  unfolding body_check
  body_begun within bodies = refl
