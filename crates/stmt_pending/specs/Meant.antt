-- What is still to be checked, as the check that it is.
use Rattle.std.specs.Prelude.{Bool, List, [], ◌∷◌, map, drop}
use Rattle.std.specs.Borrow.{Bor}
use Rattle.std.specs.declared.alloc.Global.{Global}
use Rattle.std.specs.declared.boxed.Box.{Box}
use Rattle.vdm_kinds.specs.declared.name.Name.{Name}
use Rattle.abstract_syntax.specs.Classes.{SpecTree}
use Rattle.abstract_syntax.specs.Expressions.{ExprTree}
use Rattle.abstract_syntax.specs.Statements.{HandlerTrees, MaybeStmt, StmtBranches, StmtTree}
use Rattle.expr_tree.specs.View.{pattern_trees}
use Rattle.form_meaning.specs.Forms.{FormTree, any_form, no_form}
use Rattle.vdm_tree.specs.StmtView.{
  HandlerView,
  StmtCaseView,
  stmt_view,
  stmt_views,
  stmt_trees,
  stmt_branch_view,
  stmt_branch_trees,
  stmt_case_view,
  stmt_case_trees,
  handler_view,
  handler_trees,
  maybe_stmt,
}
use Rattle.vdm_tree.specs.declared.stmt.Stmt.{Stmt}
use Rattle.class_checks.specs.Expressions.{givens, givens_each}
use Rattle.class_checks.specs.Operators.{truth}
use Rattle.class_checks.specs.Patterns.{bindings_of, pattern_faults, patterns_faults, scopes_behind}
use Rattle.class_checks.specs.Results.{Checked, refusing, after, after_each}
use Rattle.class_checks.specs.Scopes.{ScopeTree, type_scope}
use Rattle.spec_checks.specs.Statements.{done, wanting, inside_pattern, check_stmt, check_stmts, check_maybe, stmt_branches, stmt_cases, handlers_in}
use Rattle.spec_checks.specs.Targets.{StmtScope, hidden_by, patterns_names}
use Rattle.stmt_scopes.specs.Below.check_scopes.specs.Told.{spec_in}
use Rattle.stmt_scopes.specs.Below.check_scopes.specs.declared.setting.Setting.{Setting}
use Rattle.stmt_scopes.specs.Below.check_frames.specs.Meant.{at}
use Rattle.stmt_scopes.specs.Standing.{declared_in, stands_at}
use Rattle.stmt_scopes.specs.declared.returned.Returned.{Returned}
use Rattle.stmt_pending.specs.declared.bodies.Bodies.{Bodies}
use Rattle.stmt_pending.specs.declared.bodies.Cases.{Cases}
use Rattle.stmt_pending.specs.declared.task.Task.{Task}
use Rattle.stmt_pending.specs.declared.task.Task.TheVariants.{Stmt as OneStmt, Stmts, Branches, Cases as CasesLeft, Bodies as BodiesLeft, Handlers}
use Rattle.stmt_pending.specs.declared.pending.Pending.{Pending}
use Rattle.stmt_pending.specs.declared.next.Next.{Next}
use Rattle.stmt_pending.specs.declared.next.Next.TheVariants.{Nothing, One, Two}

abbrev pub boxed : Bor (Box Stmt Global) → StmtTree
boxed s = stmt_view s.now.value

-- the last of several statements, which may be left out
abbrev pub last_check : SpecTree → StmtScope → MaybeStmt → Checked
last_check spec scope last = after (check_maybe spec scope last) (λ (form : FormTree). done)

-- where the declared names are others, too
abbrev pub scoped : StmtScope → (Name → Bool) → ScopeTree → StmtScope
scoped scope declared within = record { within = within; declared = declared; returned = scope.returned }

-- there are no forms to be joined
abbrev pub first_known : FormTree → FormTree → FormTree
first_known known other = known

-- a condition of an `if`, the statement behind it, and the branches that are left
unfoldable pub branch_check : SpecTree → StmtScope → ExprTree → StmtTree → StmtBranches → MaybeStmt → Checked
branch_check spec scope condition body more otherwise = wanting spec scope truth condition
    (after (check_stmt spec scope body) (λ (form : FormTree). stmt_branches spec scope more (last_check spec scope otherwise)))

-- a handler, and those behind it
unfoldable pub handler_check : SpecTree → StmtScope → HandlerView → HandlerTrees → StmtTree → Checked
handler_check spec scope handler more body = refusing (pattern_faults spec (type_scope scope.within) handler.pattern)
    (givens spec scope.within handler.pattern
    (after (check_stmt spec (inside_pattern spec scope any_form handler.pattern) handler.body) (λ (form : FormTree).
    handlers_in spec scope more (check_stmt spec scope body))))

module _ (setting : Setting) where
  abbrev pub cases_check : StmtScope → Cases → Checked
  cases_check scope all = stmt_cases (spec_in setting) scope all.form (stmt_case_trees (map stmt_case_view all.cases.now))
      (last_check (spec_in setting) scope (maybe_stmt all.others.now))

  -- what stands behind the patterns of an alternative, in each of these scopes
  abbrev pub bodies_in : StmtScope → (Name → Bool) → StmtTree → List ScopeTree → Cases → Checked
  bodies_in scope declared body scopes all = after_each no_form
      (map (λ (within : ScopeTree). check_stmt (spec_in setting) (scoped scope declared within) body) scopes)
      first_known
      (λ (form : FormTree). cases_check scope all)

  abbrev pub bodies_check : StmtScope → Bodies → Checked
  bodies_check scope bodies =
      bodies_in scope (declared_in bodies.declared) (boxed bodies.body) (drop bodies.next (map (at setting) bodies.scopes.items)) bodies.all

  -- ... in one scope, and then in those that are left
  unfoldable pub body_check : StmtScope → ScopeTree → Bodies → Checked
  body_check scope within bodies =
      after (check_stmt (spec_in setting) (scoped scope (declared_in bodies.declared) within) (boxed bodies.body)) (λ (form : FormTree). bodies_check scope bodies)

  -- behind the patterns of an alternative, and the alternatives behind it
  unfoldable pub behind_check : StmtScope → StmtCaseView → Cases → Checked
  behind_check scope case all = bodies_in scope (hidden_by (patterns_names (pattern_trees case.patterns)) scope.declared) case.body
      (scopes_behind scope.within (bindings_of (spec_in setting) (type_scope scope.within) all.form (pattern_trees case.patterns)))
      all

  -- an alternative, and those behind it
  unfoldable pub case_check : StmtScope → StmtCaseView → Cases → Checked
  case_check scope case all = refusing (patterns_faults (spec_in setting) (type_scope scope.within) (pattern_trees case.patterns))
      (givens_each (spec_in setting) scope.within (pattern_trees case.patterns) (behind_check scope case all))

  abbrev pub task_check : StmtScope → Task → Checked
  task_check scope (OneStmt s) = check_stmt (spec_in setting) scope (stmt_view s.now)
  task_check scope (Stmts ss) = check_stmts (spec_in setting) scope (stmt_trees (stmt_views ss.now))
  task_check scope (Branches branches otherwise) = stmt_branches (spec_in setting) scope (stmt_branch_trees (map stmt_branch_view branches.now))
      (last_check (spec_in setting) scope (maybe_stmt otherwise.now))
  task_check scope (CasesLeft all) = cases_check scope all
  task_check scope (BodiesLeft bodies) = bodies_check scope bodies
  task_check scope (Handlers handlers body) =
      handlers_in (spec_in setting) scope (handler_trees (map handler_view handlers.now)) (check_stmt (spec_in setting) scope (boxed body))

  abbrev pub pending_check : Returned → Pending → Checked
  pending_check returned pending = task_check (stands_at setting returned pending.standing) pending.task

  abbrev pub next_check : Returned → Next → Checked
  next_check returned Nothing = done
  next_check returned (One pending) = pending_check returned pending
  next_check returned (Two pending rest) = after (pending_check returned pending) (λ (form : FormTree). pending_check returned rest)

  -- what is above comes first; the topmost is the last
  abbrev pub under : Returned → List Pending → Checked → Checked
  under returned [] checked = checked
  under returned (low ∷ above) checked = after (under returned above checked) (λ (form : FormTree). pending_check returned low)
