-- The pure tree that a statement of the program is.
use Rattle.std.specs.Prelude.{List, [], ◌∷◌, map, Option, Some, None, option_map, Box}
use Rattle.abstract_syntax.specs.Expressions.{ExprTree, PatternTree}
use Rattle.abstract_syntax.specs.Statements.{
  TargetStepTree,
  field_of,
  element_at,
  TargetTree,
  variable,
  variable_of_class,
  AssignmentTree,
  LocalTree,
  DclTree,
  StmtTree,
  StmtTrees,
  MaybeStmt,
  StmtBranches,
  StmtCases,
  HandlerTrees,
  block,
  assign,
  assign_together,
  call,
  returns,
  exits,
  let_then,
  let_be_then,
  def_then,
  if_then,
  cases_then,
  while_do,
  for_numbers,
  for_set,
  for_sequence,
  trap_exit,
  trap_exits,
  always_after,
  in_parallel,
  start_thread,
  start_threads,
  skips,
  errs,
  no_stmts,
  one_stmt,
  no_stmt,
  given_stmt,
  no_stmt_branches,
  one_stmt_branch,
  no_stmt_cases,
  one_stmt_case,
  no_handlers,
  one_handler,
}
use Rattle.vdm_tree.specs.declared.dcl.Local.{Local}
use Rattle.vdm_tree.specs.declared.dcl.Dcl.{Dcl}
use Rattle.vdm_tree.specs.declared.stmt.Stmt.{Stmt, fold-Stmt}
use Rattle.vdm_tree.specs.declared.stmt.StmtBranch.{StmtBranch, fold-StmtBranch}
use Rattle.vdm_tree.specs.declared.stmt.StmtCase.{StmtCase, fold-StmtCase}
use Rattle.vdm_tree.specs.declared.stmt.Handler.{Handler, fold-Handler}
use Rattle.vdm_tree.specs.declared.stmt.Stmt.TheOpen.{
  Stmt-F,
  Block,
  Assign,
  AssignTogether,
  Call,
  Return,
  Exit,
  Let,
  LetBe,
  Def,
  If,
  Cases,
  While,
  ForNumbers,
  ForSet,
  ForSequence,
  Trap,
  Tixe,
  Always,
  Parallel,
  Start,
  StartList,
  Skip,
  Error,
  StmtBranch-F,
  StmtCase-F,
  Handler-F,
}
use Rattle.vdm_tree.specs.declared.target.TargetStep.{TargetStep}
use Rattle.vdm_tree.specs.declared.target.TargetStep.TheVariants.{Field, Element}
use Rattle.vdm_tree.specs.declared.target.Target.{Target}
use Rattle.vdm_tree.specs.declared.target.Target.TheVariants.{Name, Qualified}
use Rattle.vdm_tree.specs.declared.target.Assignment.{Assignment}
use Rattle.type_tree.specs.TypeView.{type_view}
use Rattle.expr_tree.specs.View.{boxed_view, pattern_view, pattern_views, pattern_trees, bind_view, defined_view, defined_trees}

abbrev pub target_step_view : TargetStep → TargetStepTree
target_step_view (Field name name_place place) = field_of name name_place place
target_step_view (Element index place) = element_at (boxed_view index) place

abbrev pub target_view : Target → TargetTree
target_view (Name name steps place) = variable name (map target_step_view steps.items) place
target_view (Qualified class name name_place steps place) = variable_of_class class name name_place (map target_step_view steps.items) place

abbrev pub assignment_view : Assignment → AssignmentTree
assignment_view a = record { target = target_view a.target; value = boxed_view a.value }

abbrev pub local_view : Local → LocalTree
local_view l = record {
  name = l.name;
  name_place = l.name_place;
  declared = type_view l.declared;
  initial = option_map boxed_view l.initial;
}

abbrev pub dcl_view : Dcl → DclTree
dcl_view d = record { locals = map local_view d.locals.items; place = d.place }

-- ---- what stands in a list of its own kind

-- `elseif c then s`
pub record StmtBranchView : Type 0 where
  pub condition : ExprTree
  pub body : StmtTree

-- `p, q -> s`
pub record StmtCaseView : Type 0 where
  pub patterns : List PatternTree
  pub body : StmtTree

-- `p |-> s`
pub record HandlerView : Type 0 where
  pub pattern : PatternTree
  pub body : StmtTree

-- ---- lists as parts of a tree

abbrev pub stmt_trees : List StmtTree → StmtTrees
stmt_trees [] = no_stmts
stmt_trees (s ∷ ss) = one_stmt s (stmt_trees ss)

abbrev pub stmt_branch_trees : List StmtBranchView → StmtBranches
stmt_branch_trees [] = no_stmt_branches
stmt_branch_trees (b ∷ bs) = one_stmt_branch b.condition b.body (stmt_branch_trees bs)

abbrev pub stmt_case_trees : List StmtCaseView → StmtCases
stmt_case_trees [] = no_stmt_cases
stmt_case_trees (c ∷ cs) = one_stmt_case (pattern_trees c.patterns) c.body (stmt_case_trees cs)

abbrev pub handler_trees : List HandlerView → HandlerTrees
handler_trees [] = no_handlers
handler_trees (h ∷ hs) = one_handler h.pattern h.body (handler_trees hs)

abbrev unboxed : {A : Type 0} → Option (Box StmtTree A) → MaybeStmt
unboxed None = no_stmt
unboxed (Some s) = given_stmt s.value

-- ---- one level, whose statements are pure trees

abbrev pub stmt_step : Stmt-F StmtTree HandlerView StmtBranchView StmtCaseView → StmtTree
stmt_step (Block locals statements place) = block (map dcl_view locals.items) (stmt_trees statements.items) place
stmt_step (Assign target value place) = assign (target_view target) (boxed_view value) place
stmt_step (AssignTogether assignments place) = assign_together (map assignment_view assignments.items) place
stmt_step (Call application place) = call (boxed_view application) place
stmt_step (Return value place) = returns (option_map boxed_view value) place
stmt_step (Exit value place) = exits (option_map boxed_view value) place
stmt_step (Let definitions body place) = let_then (defined_trees (map defined_view definitions.items)) body.value place
stmt_step (LetBe bind condition body place) = let_be_then (bind_view bind.value) (option_map boxed_view condition) body.value place
stmt_step (Def pattern value body place) = def_then (pattern_view pattern.value) (boxed_view value) body.value place
stmt_step (If condition body elseifs otherwise place) =
    if_then (boxed_view condition) body.value (stmt_branch_trees elseifs.items) (unboxed otherwise) place
stmt_step (Cases subject cases others place) = cases_then (boxed_view subject) (stmt_case_trees cases.items) (unboxed others) place
stmt_step (While condition body place) = while_do (boxed_view condition) body.value place
stmt_step (ForNumbers name name_place first last by body place) =
    for_numbers name name_place (boxed_view first) (boxed_view last) (option_map boxed_view by) body.value place
stmt_step (ForSet pattern set body place) = for_set (pattern_view pattern.value) (boxed_view set) body.value place
stmt_step (ForSequence pattern sequence body place) = for_sequence (pattern_view pattern.value) (boxed_view sequence) body.value place
stmt_step (Trap pattern handler body place) = trap_exit (pattern_view pattern.value) handler.value body.value place
stmt_step (Tixe handlers body place) = trap_exits (handler_trees handlers.items) body.value place
stmt_step (Always last body place) = always_after last.value body.value place
stmt_step (Parallel statements place) = in_parallel (stmt_trees statements.items) place
stmt_step (Start object place) = start_thread (boxed_view object) place
stmt_step (StartList objects place) = start_threads (boxed_view objects) place
stmt_step (Skip place) = skips place
stmt_step (Error place) = errs place

abbrev pub stmt_branch_step : StmtBranch-F StmtTree HandlerView StmtBranchView StmtCaseView → StmtBranchView
stmt_branch_step b = record { condition = boxed_view b.condition; body = b.body.value }

abbrev pub stmt_case_step : StmtCase-F StmtTree HandlerView StmtBranchView StmtCaseView → StmtCaseView
stmt_case_step c = record { patterns = pattern_views c.patterns.items; body = c.body.value }

abbrev pub handler_step : Handler-F StmtTree HandlerView StmtBranchView StmtCaseView → HandlerView
handler_step h = record { pattern = pattern_view h.pattern.value; body = h.body.value }

-- ---- whole trees

abbrev pub stmt_view : Stmt → StmtTree
stmt_view = fold-Stmt StmtTree HandlerView StmtBranchView StmtCaseView stmt_step handler_step stmt_branch_step stmt_case_step

abbrev pub stmt_branch_view : StmtBranch → StmtBranchView
stmt_branch_view = fold-StmtBranch StmtTree HandlerView StmtBranchView StmtCaseView stmt_step handler_step stmt_branch_step stmt_case_step

abbrev pub stmt_case_view : StmtCase → StmtCaseView
stmt_case_view = fold-StmtCase StmtTree HandlerView StmtBranchView StmtCaseView stmt_step handler_step stmt_branch_step stmt_case_step

abbrev pub handler_view : Handler → HandlerView
handler_view = fold-Handler StmtTree HandlerView StmtBranchView StmtCaseView stmt_step handler_step stmt_branch_step stmt_case_step

abbrev pub stmt_views : List Stmt → List StmtTree
stmt_views = map stmt_view

abbrev pub boxed_stmt : {A : Type 0} → Box Stmt A → StmtTree
boxed_stmt s = stmt_view s.value

abbrev pub maybe_stmt : {A : Type 0} → Option (Box Stmt A) → MaybeStmt
maybe_stmt None = no_stmt
maybe_stmt (Some s) = given_stmt (stmt_view s.value)
