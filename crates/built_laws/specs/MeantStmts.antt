-- Statements and bodies with a meaning: each statement of them has a plan of its own, and so has each node of their expressions.
use Rattle.std.specs.Prelude.{◌≡◌, ℕ, zero, suc, Bool, true, false, List, [], ◌∷◌, ◌++◌}
use Rattle.abstract_syntax.specs.Expressions.{ExprTree, apply}
use Rattle.abstract_syntax.specs.Statements.{
  AssignmentTree,
  LocalTree,
  DclTree,
  StmtTree,
  StmtTrees,
  MaybeStmt,
  StmtBranches,
  StmtCases,
  HandlerTrees,
  block,
  assign,
  assign_together,
  call,
  returns,
  exits,
  let_then,
  let_be_then,
  def_then,
  if_then,
  cases_then,
  while_do,
  for_numbers,
  for_set,
  for_sequence,
  trap_exit,
  trap_exits,
  always_after,
  in_parallel,
  start_thread,
  start_threads,
  no_stmts,
  one_stmt,
  no_stmt,
  given_stmt,
  no_stmt_branches,
  one_stmt_branch,
  no_stmt_cases,
  one_stmt_case,
  no_handlers,
  one_handler,
}
use Rattle.abstract_syntax.specs.Classes.{Body, written, not_yet_specified, subclass_responsibility}
use Rattle.pattern_meaning.specs.Brackets.{given_in, given_in_each}
use Rattle.stmt_meaning.specs.Targets.{target_steps, indices}
use Rattle.built_laws.specs.Meant.{Each, IsMeant}
use Rattle.built_laws.specs.Parts.{given_part, definitions_in, bind_parts}

-- what is called: an application
abbrev pub is_application : ExprTree → Bool
is_application (apply head arguments place) = true
is_application _ = false

-- whether the statement has a meaning by itself: each kind has one
abbrev pub is_plain : StmtTree → Bool
is_plain (call application place) = is_application application
is_plain statement = true

-- ---- its statements

abbrev pub statements_in : StmtTrees → List StmtTree
statements_in no_stmts = []
statements_in (one_stmt statement statements) = statement ∷ statements_in statements

abbrev pub maybe_statement : MaybeStmt → List StmtTree
maybe_statement no_stmt = []
maybe_statement (given_stmt statement) = statement ∷ []

abbrev pub branch_statements : StmtBranches → List StmtTree
branch_statements no_stmt_branches = []
branch_statements (one_stmt_branch condition statement branches) = statement ∷ branch_statements branches

abbrev pub case_statements : StmtCases → List StmtTree
case_statements no_stmt_cases = []
case_statements (one_stmt_case ps statement cases) = statement ∷ case_statements cases

abbrev pub handler_statements : HandlerTrees → List StmtTree
handler_statements no_handlers = []
handler_statements (one_handler pattern statement handlers) = statement ∷ handler_statements handlers

-- those that stand right in a statement
abbrev pub inner : StmtTree → List StmtTree
inner (block locals statements place) = statements_in statements
inner (let_then definitions body place) = body ∷ []
inner (let_be_then bind condition body place) = body ∷ []
inner (def_then pattern value body place) = body ∷ []
inner (if_then condition body elseifs otherwise place) = body ∷ (branch_statements elseifs ++ maybe_statement otherwise)
inner (cases_then subject cases others place) = case_statements cases ++ maybe_statement others
inner (while_do condition body place) = body ∷ []
inner (for_numbers name name_place first last by body place) = body ∷ []
inner (for_set pattern set body place) = body ∷ []
inner (for_sequence pattern items body place) = body ∷ []
inner (trap_exit pattern handler body place) = handler ∷ body ∷ []
inner (trap_exits handlers body place) = handler_statements handlers ++ (body ∷ [])
inner (always_after last body place) = last ∷ body ∷ []
inner (in_parallel statements place) = statements_in statements
inner _ = []

-- ---- its expressions

abbrev pub assigned_in : List AssignmentTree → List ExprTree
assigned_in [] = []
assigned_in (a ∷ assignments) = (indices (target_steps a.target) ++ (a.value ∷ [])) ++ assigned_in assignments

abbrev pub initial_values : List LocalTree → List ExprTree
initial_values [] = []
initial_values (local ∷ others) = given_part local.initial ++ initial_values others

abbrev pub local_values : List DclTree → List ExprTree
local_values [] = []
local_values (dcl ∷ dcls) = initial_values dcl.locals ++ local_values dcls

abbrev pub branch_conditions : StmtBranches → List ExprTree
branch_conditions no_stmt_branches = []
branch_conditions (one_stmt_branch condition statement branches) = condition ∷ branch_conditions branches

abbrev pub case_givens : StmtCases → List ExprTree
case_givens no_stmt_cases = []
case_givens (one_stmt_case patterns statement cases) = given_in_each patterns ++ case_givens cases

abbrev pub handler_givens : HandlerTrees → List ExprTree
handler_givens no_handlers = []
handler_givens (one_handler pattern statement handlers) = given_in pattern ++ handler_givens handlers

-- those that stand right in a statement, and those in brackets in its patterns
abbrev pub evaluated_in : StmtTree → List ExprTree
evaluated_in (block locals statements place) = local_values locals
evaluated_in (assign target value place) = indices (target_steps target) ++ (value ∷ [])
evaluated_in (assign_together assignments place) = assigned_in assignments
evaluated_in (call application place) = application ∷ []
evaluated_in (returns value place) = given_part value
evaluated_in (exits value place) = given_part value
evaluated_in (let_then definitions body place) = definitions_in definitions
evaluated_in (let_be_then bind condition body place) = bind_parts bind ++ given_part condition
evaluated_in (def_then pattern value body place) = given_in pattern ++ (value ∷ [])
evaluated_in (if_then condition body elseifs otherwise place) = condition ∷ branch_conditions elseifs
evaluated_in (cases_then subject cases others place) = subject ∷ case_givens cases
evaluated_in (while_do condition body place) = condition ∷ []
evaluated_in (for_numbers name name_place first last by body place) = first ∷ last ∷ given_part by
evaluated_in (for_set pattern set body place) = given_in pattern ++ (set ∷ [])
evaluated_in (for_sequence pattern items body place) = given_in pattern ++ (items ∷ [])
evaluated_in (trap_exit pattern handler body place) = given_in pattern
evaluated_in (trap_exits handlers body place) = handler_givens handlers
evaluated_in (start_thread object place) = object ∷ []
evaluated_in (start_threads objects place) = objects ∷ []
evaluated_in _ = []

-- ---- whole statements

-- each statement and each node has a meaning that stands fewer levels deep than this
abbrev pub IsMeantStmt : ℕ → StmtTree → Type 0
IsMeantStmt zero statement = Unit {0}
IsMeantStmt (suc levels) statement =
    (is_plain statement ≡ true) × Each (IsMeant levels) (evaluated_in statement) × Each (IsMeantStmt levels) (inner statement)

-- a body that is not written is undefined where it is called, and nothing of it is evaluated
abbrev pub IsMeantBody : ℕ → Body StmtTree → Type 0
IsMeantBody levels (written body) = IsMeantStmt levels body
IsMeantBody levels not_yet_specified = Unit {0}
IsMeantBody levels subclass_responsibility = Unit {0}
