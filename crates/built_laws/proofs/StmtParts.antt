-- What stands right in a statement that is built is built.
use Rattle.std.proofs.Common.{◌≡◌, true, List, [], ◌∷◌, ◌++◌, Option, Some, None, refl}
use Rattle.vdm_kinds.specs.declared.place.Place.{Place}
use Rattle.abstract_syntax.specs.Expressions.{ExprTree, BindTree, PatternTree, apply}
use Rattle.abstract_syntax.specs.Statements.{
  TargetStepTree,
  field_of,
  element_at,
  TargetTree,
  variable,
  variable_of_class,
  AssignmentTree,
  LocalTree,
  DclTree,
  StmtTree,
  StmtTrees,
  MaybeStmt,
  StmtBranches,
  StmtCases,
  HandlerTrees,
  block,
  assign,
  assign_together,
  call,
  returns,
  exits,
  let_then,
  let_be_then,
  def_then,
  if_then,
  cases_then,
  while_do,
  for_numbers,
  for_set,
  for_sequence,
  trap_exit,
  trap_exits,
  always_after,
  in_parallel,
  start_thread,
  start_threads,
  skips,
  errs,
  no_stmts,
  one_stmt,
  no_stmt,
  given_stmt,
  no_stmt_branches,
  one_stmt_branch,
  no_stmt_cases,
  one_stmt_case,
  no_handlers,
  one_handler,
}
use Rattle.pattern_meaning.specs.Brackets.{given_in, given_in_each}
use Rattle.stmt_meaning.specs.Targets.{target_steps, indices}
use Rattle.text_phases.specs.Built.{
  or_behind,
  unbuilt_in_expr,
  unbuilt_in_defined,
  unbuilt_in_bind,
  unbuilt_in_pattern,
  unbuilt_in_patterns,
  unbuilt_if_given,
  unbuilt_in_steps,
  unbuilt_in_target,
  unbuilt_in_assignment,
  unbuilt_in_assignments,
  unbuilt_in_each_local,
  unbuilt_in_locals,
  unbuilt_in_stmt,
  unbuilt_in_stmts,
  unbuilt_in_maybe_stmt,
  unbuilt_in_branch_stmts,
  unbuilt_in_case_stmts,
  unbuilt_in_handlers,
  IsBuiltExpr,
}
use Rattle.built_laws.specs.Meant.{Each}
use Rattle.built_laws.specs.MeantStmts.{
  is_plain,
  statements_in,
  maybe_statement,
  branch_statements,
  case_statements,
  handler_statements,
  inner,
  assigned_in,
  initial_values,
  local_values,
  branch_conditions,
  case_givens,
  handler_givens,
  evaluated_in,
}
use Rattle.built_laws.specs.Parts.{given_part, bind_parts}
use Rattle.built_laws.proofs.Lists.{each-append}
use Rattle.built_laws.proofs.Nothing.{first-none, behind-none, told-none}
use Rattle.built_laws.proofs.PartsBuilt.{definitions_built, bind_built, given_built, each_built}

abbrev pub IsBuiltStmt : StmtTree → Type 0
IsBuiltStmt statement = unbuilt_in_stmt statement ≡ None

-- ---- expressions

pub given_part_built : (part : Option ExprTree) → unbuilt_if_given part ≡ None → Each IsBuiltExpr (given_part part)
given_part_built None h = tt
given_part_built (Some part) h = (h, tt)

steps_built : (steps : List TargetStepTree) → unbuilt_in_steps steps ≡ None → Each IsBuiltExpr (indices steps)
steps_built [] h = tt
steps_built (field_of name name_place place ∷ steps) h = steps_built steps h
steps_built (element_at index place ∷ steps) h = (
  first-none (unbuilt_in_expr true index) (unbuilt_in_steps steps) h,
  steps_built steps (behind-none (unbuilt_in_expr true index) (unbuilt_in_steps steps) h),
)

target_built : (target : TargetTree) → unbuilt_in_target target ≡ None → Each IsBuiltExpr (indices (target_steps target))
target_built (variable name steps place) h = steps_built steps h
target_built (variable_of_class class name name_place steps place) h = steps_built steps h

assignment_built : (target : TargetTree) (value : ExprTree) → or_behind (unbuilt_in_target target) (unbuilt_in_expr true value) ≡ None
    → Each IsBuiltExpr (indices (target_steps target) ++ (value ∷ []))
assignment_built target value h =
    each-append IsBuiltExpr (indices (target_steps target)) (value ∷ [])
    (target_built target (first-none (unbuilt_in_target target) (unbuilt_in_expr true value) h))
    (behind-none (unbuilt_in_target target) (unbuilt_in_expr true value) h, tt)

assignments_built : (assignments : List AssignmentTree) → unbuilt_in_assignments assignments ≡ None → Each IsBuiltExpr (assigned_in assignments)
assignments_built [] h = tt
assignments_built (a ∷ assignments) h =
    each-append IsBuiltExpr (indices (target_steps a.target) ++ (a.value ∷ [])) (assigned_in assignments)
    (assignment_built a.target a.value (first-none (unbuilt_in_assignment a) (unbuilt_in_assignments assignments) h))
    (assignments_built assignments (behind-none (unbuilt_in_assignment a) (unbuilt_in_assignments assignments) h))

initial_built : (locals : List LocalTree) → unbuilt_in_each_local locals ≡ None → Each IsBuiltExpr (initial_values locals)
initial_built [] h = tt
initial_built (local ∷ locals) h =
    each-append IsBuiltExpr (given_part local.initial) (initial_values locals)
    (given_part_built local.initial (first-none (unbuilt_if_given local.initial) (unbuilt_in_each_local locals) h))
    (initial_built locals (behind-none (unbuilt_if_given local.initial) (unbuilt_in_each_local locals) h))

locals_built : (dcls : List DclTree) → unbuilt_in_locals dcls ≡ None → Each IsBuiltExpr (local_values dcls)
locals_built [] h = tt
locals_built (dcl ∷ dcls) h =
    each-append IsBuiltExpr (initial_values dcl.locals) (local_values dcls)
    (initial_built dcl.locals (first-none (unbuilt_in_each_local dcl.locals) (unbuilt_in_locals dcls) h))
    (locals_built dcls (behind-none (unbuilt_in_each_local dcl.locals) (unbuilt_in_locals dcls) h))

conditions_built : (branches : StmtBranches) → unbuilt_in_branch_stmts branches ≡ None → Each IsBuiltExpr (branch_conditions branches)
conditions_built no_stmt_branches h = tt
conditions_built (one_stmt_branch condition statement branches) h =
    let behind = behind-none (unbuilt_in_expr true condition) (or_behind (unbuilt_in_stmt statement) (unbuilt_in_branch_stmts branches)) h in (
      first-none (unbuilt_in_expr true condition) (or_behind (unbuilt_in_stmt statement) (unbuilt_in_branch_stmts branches)) h,
      conditions_built branches (behind-none (unbuilt_in_stmt statement) (unbuilt_in_branch_stmts branches) behind),
    )

case_givens_built : (cases : StmtCases) → unbuilt_in_case_stmts cases ≡ None → Each IsBuiltExpr (case_givens cases)
case_givens_built no_stmt_cases h = tt
case_givens_built (one_stmt_case patterns statement cases) h =
    let behind = behind-none (unbuilt_in_patterns true patterns) (or_behind (unbuilt_in_stmt statement) (unbuilt_in_case_stmts cases)) h in
    each-append IsBuiltExpr (given_in_each patterns) (case_givens cases)
    (each_built true patterns (first-none (unbuilt_in_patterns true patterns) (or_behind (unbuilt_in_stmt statement) (unbuilt_in_case_stmts cases)) h))
    (case_givens_built cases (behind-none (unbuilt_in_stmt statement) (unbuilt_in_case_stmts cases) behind))

handler_givens_built : (handlers : HandlerTrees) → unbuilt_in_handlers handlers ≡ None → Each IsBuiltExpr (handler_givens handlers)
handler_givens_built no_handlers h = tt
handler_givens_built (one_handler pattern statement handlers) h =
    let behind = behind-none (unbuilt_in_pattern true pattern) (or_behind (unbuilt_in_stmt statement) (unbuilt_in_handlers handlers)) h in
    each-append IsBuiltExpr (given_in pattern) (handler_givens handlers)
    (given_built true pattern (first-none (unbuilt_in_pattern true pattern) (or_behind (unbuilt_in_stmt statement) (unbuilt_in_handlers handlers)) h))
    (handler_givens_built handlers (behind-none (unbuilt_in_stmt statement) (unbuilt_in_handlers handlers) behind))

-- a pattern, the value that it meets, and a statement
met_built : (pattern : PatternTree) (value : ExprTree) (body : StmtTree)
    → or_behind (unbuilt_in_pattern true pattern) (or_behind (unbuilt_in_expr true value) (unbuilt_in_stmt body)) ≡ None
    → Each IsBuiltExpr (given_in pattern ++ (value ∷ []))
met_built pattern value body h =
    let behind = behind-none (unbuilt_in_pattern true pattern) (or_behind (unbuilt_in_expr true value) (unbuilt_in_stmt body)) h in
    each-append IsBuiltExpr (given_in pattern) (value ∷ [])
    (given_built true pattern (first-none (unbuilt_in_pattern true pattern) (or_behind (unbuilt_in_expr true value) (unbuilt_in_stmt body)) h))
    (first-none (unbuilt_in_expr true value) (unbuilt_in_stmt body) behind, tt)

chosen_built : (bind : BindTree) (condition : Option ExprTree) (body : StmtTree)
    → or_behind (unbuilt_in_bind true bind) (or_behind (unbuilt_if_given condition) (unbuilt_in_stmt body)) ≡ None
    → Each IsBuiltExpr (bind_parts bind ++ given_part condition)
chosen_built bind condition body h =
    let behind = behind-none (unbuilt_in_bind true bind) (or_behind (unbuilt_if_given condition) (unbuilt_in_stmt body)) h in
    each-append IsBuiltExpr (bind_parts bind) (given_part condition)
    (bind_built true bind (first-none (unbuilt_in_bind true bind) (or_behind (unbuilt_if_given condition) (unbuilt_in_stmt body)) h))
    (given_part_built condition (first-none (unbuilt_if_given condition) (unbuilt_in_stmt body) behind))

numbers_built : (first last : ExprTree) (by : Option ExprTree) (body : StmtTree)
    → or_behind (unbuilt_in_expr true first) (or_behind (unbuilt_in_expr true last) (or_behind (unbuilt_if_given by) (unbuilt_in_stmt body))) ≡ None
    → Each IsBuiltExpr (first ∷ last ∷ given_part by)
numbers_built first last by body h =
    let behind_first = behind-none (unbuilt_in_expr true first) (or_behind (unbuilt_in_expr true last) (or_behind (unbuilt_if_given by) (unbuilt_in_stmt body))) h in
    let behind_last = behind-none (unbuilt_in_expr true last) (or_behind (unbuilt_if_given by) (unbuilt_in_stmt body)) behind_first in (
      first-none (unbuilt_in_expr true first) (or_behind (unbuilt_in_expr true last) (or_behind (unbuilt_if_given by) (unbuilt_in_stmt body))) h,
      (
        first-none (unbuilt_in_expr true last) (or_behind (unbuilt_if_given by) (unbuilt_in_stmt body)) behind_first,
        given_part_built by (first-none (unbuilt_if_given by) (unbuilt_in_stmt body) behind_last),
      ),
    )

pub evaluated_built : (statement : StmtTree) → IsBuiltStmt statement → Each IsBuiltExpr (evaluated_in statement)
evaluated_built (block locals statements place) h = locals_built locals (first-none (unbuilt_in_locals locals) (unbuilt_in_stmts statements) h)
evaluated_built (assign target value place) h = assignment_built target value h
evaluated_built (assign_together assignments place) h = assignments_built assignments h
evaluated_built (call (apply head arguments at) place) h = (h, tt)
evaluated_built (call tree place) h = told-none _ h
evaluated_built (returns value place) h = given_part_built value h
evaluated_built (exits value place) h = given_part_built value h
evaluated_built (let_then definitions body place) h =
    definitions_built true definitions (first-none (unbuilt_in_defined true definitions) (unbuilt_in_stmt body) h)
evaluated_built (let_be_then bind condition body place) h = chosen_built bind condition body h
evaluated_built (def_then pattern value body place) h = met_built pattern value body h
evaluated_built (if_then condition body elseifs otherwise place) h =
    let rest = or_behind (unbuilt_in_branch_stmts elseifs) (unbuilt_in_maybe_stmt otherwise) in
    let behind = behind-none (unbuilt_in_expr true condition) (or_behind (unbuilt_in_stmt body) rest) h in
    let last = behind-none (unbuilt_in_stmt body) rest behind in (
      first-none (unbuilt_in_expr true condition) (or_behind (unbuilt_in_stmt body) rest) h,
      conditions_built elseifs (first-none (unbuilt_in_branch_stmts elseifs) (unbuilt_in_maybe_stmt otherwise) last),
    )
evaluated_built (cases_then subject cases others place) h =
    let rest = or_behind (unbuilt_in_case_stmts cases) (unbuilt_in_maybe_stmt others) in (
      first-none (unbuilt_in_expr true subject) rest h,
      case_givens_built cases (first-none (unbuilt_in_case_stmts cases) (unbuilt_in_maybe_stmt others) (behind-none (unbuilt_in_expr true subject) rest h)),
    )
evaluated_built (while_do condition body place) h = (first-none (unbuilt_in_expr true condition) (unbuilt_in_stmt body) h, tt)
evaluated_built (for_numbers name name_place first last by body place) h = numbers_built first last by body h
evaluated_built (for_set pattern set body place) h = met_built pattern set body h
evaluated_built (for_sequence pattern items body place) h = met_built pattern items body h
evaluated_built (trap_exit pattern handler body place) h =
    given_built true pattern (first-none (unbuilt_in_pattern true pattern) (or_behind (unbuilt_in_stmt handler) (unbuilt_in_stmt body)) h)
evaluated_built (trap_exits handlers body place) h = handler_givens_built handlers (first-none (unbuilt_in_handlers handlers) (unbuilt_in_stmt body) h)
evaluated_built (always_after last body place) h = tt
evaluated_built (in_parallel statements place) h = tt
evaluated_built (start_thread object place) h = (h, tt)
evaluated_built (start_threads objects place) h = (h, tt)
evaluated_built (skips place) h = tt
evaluated_built (errs place) h = tt

-- ---- statements

stmts_built : (statements : StmtTrees) → unbuilt_in_stmts statements ≡ None → Each IsBuiltStmt (statements_in statements)
stmts_built no_stmts h = tt
stmts_built (one_stmt statement statements) h = (
  first-none (unbuilt_in_stmt statement) (unbuilt_in_stmts statements) h,
  stmts_built statements (behind-none (unbuilt_in_stmt statement) (unbuilt_in_stmts statements) h),
)

maybe_built : (statement : MaybeStmt) → unbuilt_in_maybe_stmt statement ≡ None → Each IsBuiltStmt (maybe_statement statement)
maybe_built no_stmt h = tt
maybe_built (given_stmt statement) h = (h, tt)

branches_built : (branches : StmtBranches) → unbuilt_in_branch_stmts branches ≡ None → Each IsBuiltStmt (branch_statements branches)
branches_built no_stmt_branches h = tt
branches_built (one_stmt_branch condition statement branches) h =
    let behind = behind-none (unbuilt_in_expr true condition) (or_behind (unbuilt_in_stmt statement) (unbuilt_in_branch_stmts branches)) h in (
      first-none (unbuilt_in_stmt statement) (unbuilt_in_branch_stmts branches) behind,
      branches_built branches (behind-none (unbuilt_in_stmt statement) (unbuilt_in_branch_stmts branches) behind),
    )

cases_built : (cases : StmtCases) → unbuilt_in_case_stmts cases ≡ None → Each IsBuiltStmt (case_statements cases)
cases_built no_stmt_cases h = tt
cases_built (one_stmt_case patterns statement cases) h =
    let behind = behind-none (unbuilt_in_patterns true patterns) (or_behind (unbuilt_in_stmt statement) (unbuilt_in_case_stmts cases)) h in (
      first-none (unbuilt_in_stmt statement) (unbuilt_in_case_stmts cases) behind,
      cases_built cases (behind-none (unbuilt_in_stmt statement) (unbuilt_in_case_stmts cases) behind),
    )

handlers_built : (handlers : HandlerTrees) → unbuilt_in_handlers handlers ≡ None → Each IsBuiltStmt (handler_statements handlers)
handlers_built no_handlers h = tt
handlers_built (one_handler pattern statement handlers) h =
    let behind = behind-none (unbuilt_in_pattern true pattern) (or_behind (unbuilt_in_stmt statement) (unbuilt_in_handlers handlers)) h in (
      first-none (unbuilt_in_stmt statement) (unbuilt_in_handlers handlers) behind,
      handlers_built handlers (behind-none (unbuilt_in_stmt statement) (unbuilt_in_handlers handlers) behind),
    )

-- the last of three
last_built : (a b : Option Place) (body : StmtTree) → or_behind a (or_behind b (unbuilt_in_stmt body)) ≡ None → Each IsBuiltStmt (body ∷ [])
last_built a b body h = (behind-none b (unbuilt_in_stmt body) (behind-none a (or_behind b (unbuilt_in_stmt body)) h), tt)

pub inner_built : (statement : StmtTree) → IsBuiltStmt statement → Each IsBuiltStmt (inner statement)
inner_built (block locals statements place) h = stmts_built statements (behind-none (unbuilt_in_locals locals) (unbuilt_in_stmts statements) h)
inner_built (let_then definitions body place) h = (behind-none (unbuilt_in_defined true definitions) (unbuilt_in_stmt body) h, tt)
inner_built (let_be_then bind condition body place) h = last_built (unbuilt_in_bind true bind) (unbuilt_if_given condition) body h
inner_built (def_then pattern value body place) h = last_built (unbuilt_in_pattern true pattern) (unbuilt_in_expr true value) body h
inner_built (if_then condition body elseifs otherwise place) h =
    let rest = or_behind (unbuilt_in_branch_stmts elseifs) (unbuilt_in_maybe_stmt otherwise) in
    let behind = behind-none (unbuilt_in_expr true condition) (or_behind (unbuilt_in_stmt body) rest) h in
    let last = behind-none (unbuilt_in_stmt body) rest behind in (
      first-none (unbuilt_in_stmt body) rest behind,
      each-append IsBuiltStmt (branch_statements elseifs) (maybe_statement otherwise)
          (branches_built elseifs (first-none (unbuilt_in_branch_stmts elseifs) (unbuilt_in_maybe_stmt otherwise) last))
          (maybe_built otherwise (behind-none (unbuilt_in_branch_stmts elseifs) (unbuilt_in_maybe_stmt otherwise) last)),
    )
inner_built (cases_then subject cases others place) h =
    let behind = behind-none (unbuilt_in_expr true subject) (or_behind (unbuilt_in_case_stmts cases) (unbuilt_in_maybe_stmt others)) h in
    each-append IsBuiltStmt (case_statements cases) (maybe_statement others)
    (cases_built cases (first-none (unbuilt_in_case_stmts cases) (unbuilt_in_maybe_stmt others) behind))
    (maybe_built others (behind-none (unbuilt_in_case_stmts cases) (unbuilt_in_maybe_stmt others) behind))
inner_built (while_do condition body place) h = (behind-none (unbuilt_in_expr true condition) (unbuilt_in_stmt body) h, tt)
inner_built (for_numbers name name_place first last by body place) h =
    last_built (unbuilt_in_expr true last) (unbuilt_if_given by) body
    (behind-none (unbuilt_in_expr true first) (or_behind (unbuilt_in_expr true last) (or_behind (unbuilt_if_given by) (unbuilt_in_stmt body))) h)
inner_built (for_set pattern set body place) h = last_built (unbuilt_in_pattern true pattern) (unbuilt_in_expr true set) body h
inner_built (for_sequence pattern items body place) h = last_built (unbuilt_in_pattern true pattern) (unbuilt_in_expr true items) body h
inner_built (trap_exit pattern handler body place) h =
    let behind = behind-none (unbuilt_in_pattern true pattern) (or_behind (unbuilt_in_stmt handler) (unbuilt_in_stmt body)) h in (
      first-none (unbuilt_in_stmt handler) (unbuilt_in_stmt body) behind,
      (behind-none (unbuilt_in_stmt handler) (unbuilt_in_stmt body) behind, tt),
    )
inner_built (trap_exits handlers body place) h =
    each-append IsBuiltStmt (handler_statements handlers) (body ∷ [])
    (handlers_built handlers (first-none (unbuilt_in_handlers handlers) (unbuilt_in_stmt body) h))
    (behind-none (unbuilt_in_handlers handlers) (unbuilt_in_stmt body) h, tt)
inner_built (always_after last body place) h =
    (first-none (unbuilt_in_stmt last) (unbuilt_in_stmt body) h, (behind-none (unbuilt_in_stmt last) (unbuilt_in_stmt body) h, tt))
inner_built (in_parallel statements place) h = stmts_built statements h
inner_built (assign target value place) h = tt
inner_built (assign_together assignments place) h = tt
inner_built (call application place) h = tt
inner_built (returns value place) h = tt
inner_built (exits value place) h = tt
inner_built (start_thread object place) h = tt
inner_built (start_threads objects place) h = tt
inner_built (skips place) h = tt
inner_built (errs place) h = tt

-- ---- the statement itself

pub plain_there : (statement : StmtTree) → IsBuiltStmt statement → is_plain statement ≡ true
plain_there (call (apply head arguments at) place) h = refl
plain_there (call tree place) h = told-none _ h
plain_there statement h = refl
