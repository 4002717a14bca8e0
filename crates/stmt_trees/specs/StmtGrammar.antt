-- Which trees of statements the grammar has.
use Rattle.std.specs.Prelude.{◌≡◌, Bool, true, false, List, [], ◌∷◌, Option, Some, None}
use Rattle.vdm_kinds.specs.declared.place.Place.{Place}
use Rattle.abstract_syntax.specs.Expressions.{ExprTree, expr_place, apply, subsequence, select, select_of_class, select_part, sequence_enumeration, sequence_comprehension, cases_of}
use Rattle.abstract_syntax.specs.Statements.{AssignmentTree, LocalTree, DclTree, StmtTree, StmtTrees, MaybeStmt, StmtBranches, StmtCases, HandlerTrees, target_place, block, assign, assign_together, call, returns, exits, let_then, let_be_then, def_then, if_then, cases_then, while_do, for_numbers, for_set, for_sequence, trap_exit, trap_exits, always_after, in_parallel, start_thread, start_threads, skips, errs, no_stmts, one_stmt, no_stmt, given_stmt, no_stmt_branches, one_stmt_branch, no_stmt_cases, one_stmt_case, no_handlers, one_handler}
use Rattle.grammar_words.specs.Pulls.{far_pull}
use Rattle.type_reading.specs.TypeSpelling.{IsType, union}
use Rattle.grammar_trees.specs.Binding.{AreSomeDefinitions, AreDefinitions, AreSomePatterns, ArePatterns, Binds, IsBind, IsPattern}
use Rattle.stmt_trees.specs.Targets.{IsTarget}

-- ---- calls

-- what stands before all postfixes
abbrev pub primary : ExprTree → ExprTree
primary (apply head arguments place) = primary head
primary (subsequence target first last place) = primary target
primary (select target name name_place place) = primary target
primary (select_of_class target class class_place name name_place place) = primary target
primary (select_part target number place) = primary target
primary e = e

abbrev IsApplication : ExprTree → Type 0
IsApplication (apply head arguments place) = Unit {0}
IsApplication _ = ⊥

-- a call begins with no form that reaches to the right, no `cases`, which is a statement, and no `[`; what a prefix begins is no primary
abbrev IsHead : ExprTree → Type 0
IsHead (sequence_enumeration items place) = ⊥
IsHead (sequence_comprehension item pattern set condition place) = ⊥
IsHead (cases_of subject cases others place) = ⊥
IsHead _ = Unit {0}

-- a call is an application, at the place where it begins
pub record IsCall (application : ExprTree) (place : Place) : Type 0 where
  pub applies : IsApplication application
  pub head : IsHead (primary application)
  pub binds : Binds application far_pull
  pub begins : place ≡ expr_place (primary application)

-- ---- `else`

-- the statement ends in an `if` without `else`, which would take one that comes next
abbrev mutual
  pub takes_else : StmtTree → Bool
  takes_else (let_then definitions body place) = takes_else body
  takes_else (let_be_then bind condition body place) = takes_else body
  takes_else (def_then pattern value body place) = takes_else body
  takes_else (if_then condition body elseifs otherwise place) = lacks_else otherwise
  takes_else (while_do condition body place) = takes_else body
  takes_else (for_numbers name name_place first last step body place) = takes_else body
  takes_else (for_set pattern set body place) = takes_else body
  takes_else (for_sequence pattern sequence body place) = takes_else body
  takes_else (trap_exit pattern handler body place) = takes_else body
  takes_else (trap_exits traps body place) = takes_else body
  takes_else (always_after last body place) = takes_else body
  takes_else _ = false

  lacks_else : MaybeStmt → Bool
  lacks_else no_stmt = true
  lacks_else (given_stmt s) = takes_else s

-- an `elseif` or an `else` comes
abbrev goes_on : StmtBranches → MaybeStmt → Bool
goes_on (one_stmt_branch condition body others) otherwise = true
goes_on no_stmt_branches (given_stmt s) = true
goes_on no_stmt_branches no_stmt = false

-- an `elseif` or an `else` that comes behind the statement is not taken by it
abbrev pub LeavesElse : StmtTree → StmtBranches → MaybeStmt → Type 0
LeavesElse s elseifs otherwise = goes_on elseifs otherwise ≡ true → takes_else s ≡ false

-- ---- parts

abbrev pub IsGivenExpr : Option ExprTree → Type 0
IsGivenExpr None = Unit {0}
IsGivenExpr (Some e) = Binds e far_pull

abbrev pub IsAssignment : AssignmentTree → Type 0
IsAssignment a = IsTarget a.target × Binds a.value far_pull

abbrev pub AreAssignments : List AssignmentTree → Type 0
AreAssignments [] = Unit {0}
AreAssignments (first ∷ others) = IsAssignment first × AreAssignments others

abbrev pub AreSomeAssignments : List AssignmentTree → Type 0
AreSomeAssignments [] = ⊥
AreSomeAssignments (first ∷ others) = Unit {0}

abbrev pub AreLocals : List LocalTree → Type 0
AreLocals [] = Unit {0}
AreLocals (first ∷ others) = IsType first.declared union × IsGivenExpr first.initial × AreLocals others

abbrev pub AreSomeLocals : List LocalTree → Type 0
AreSomeLocals [] = ⊥
AreSomeLocals (first ∷ others) = Unit {0}

abbrev pub AreDcls : List DclTree → Type 0
AreDcls [] = Unit {0}
AreDcls (first ∷ others) = AreSomeLocals first.locals × AreLocals first.locals × AreDcls others

abbrev pub AreSomeStmts : StmtTrees → Type 0
AreSomeStmts no_stmts = ⊥
AreSomeStmts (one_stmt first others) = Unit {0}

abbrev pub AreSomeStmtCases : StmtCases → Type 0
AreSomeStmtCases no_stmt_cases = ⊥
AreSomeStmtCases (one_stmt_case _ body others) = Unit {0}

abbrev pub AreSomeHandlers : HandlerTrees → Type 0
AreSomeHandlers no_handlers = ⊥
AreSomeHandlers (one_handler pattern body others) = Unit {0}

-- ---- statements

abbrev mutual
  pub IsStmt : StmtTree → Type 0
  IsStmt (block locals statements place) = AreDcls locals × AreSomeStmts statements × AreStmts statements
  IsStmt (assign target value place) = IsTarget target × Binds value far_pull × (place ≡ target_place target)
  IsStmt (assign_together assignments place) = AreSomeAssignments assignments × AreAssignments assignments
  IsStmt (call application place) = IsCall application place
  IsStmt (returns value place) = IsGivenExpr value
  IsStmt (exits value place) = IsGivenExpr value
  IsStmt (let_then definitions body place) = AreSomeDefinitions definitions × AreDefinitions definitions × IsStmt body
  IsStmt (let_be_then bind condition body place) = IsBind bind × IsGivenExpr condition × IsStmt body
  IsStmt (def_then pattern value body place) = IsPattern pattern × Binds value far_pull × IsStmt body
  IsStmt (if_then condition body elseifs otherwise place) =
      Binds condition far_pull × IsStmt body × LeavesElse body elseifs otherwise × AreStmtBranches elseifs otherwise × IsGivenStmt otherwise
  IsStmt (cases_then subject cases others place) =
      Binds subject far_pull × AreSomeStmtCases cases × AreStmtCases cases × IsGivenStmt others
  IsStmt (while_do condition body place) = Binds condition far_pull × IsStmt body
  IsStmt (for_numbers name name_place first last step body place) =
      Binds first far_pull × Binds last far_pull × IsGivenExpr step × IsStmt body
  IsStmt (for_set pattern set body place) = IsPattern pattern × Binds set far_pull × IsStmt body
  IsStmt (for_sequence pattern sequence body place) = IsPattern pattern × Binds sequence far_pull × IsStmt body
  IsStmt (trap_exit pattern handler body place) = IsPattern pattern × IsStmt handler × IsStmt body
  IsStmt (trap_exits traps body place) = AreSomeHandlers traps × AreHandlers traps × IsStmt body
  IsStmt (always_after last body place) = IsStmt last × IsStmt body
  IsStmt (in_parallel statements place) = AreSomeStmts statements × AreStmts statements
  IsStmt (start_thread object place) = Binds object far_pull
  IsStmt (start_threads objects place) = Binds objects far_pull
  IsStmt (skips place) = Unit {0}
  IsStmt (errs place) = Unit {0}

  pub AreStmts : StmtTrees → Type 0
  AreStmts no_stmts = Unit {0}
  AreStmts (one_stmt first others) = IsStmt first × AreStmts others

  pub AreStmtBranches : StmtBranches → MaybeStmt → Type 0
  AreStmtBranches no_stmt_branches otherwise = Unit {0}
  AreStmtBranches (one_stmt_branch condition body others) otherwise =
      Binds condition far_pull × IsStmt body × LeavesElse body others otherwise × AreStmtBranches others otherwise

  pub IsGivenStmt : MaybeStmt → Type 0
  IsGivenStmt no_stmt = Unit {0}
  IsGivenStmt (given_stmt s) = IsStmt s

  pub AreStmtCases : StmtCases → Type 0
  AreStmtCases no_stmt_cases = Unit {0}
  AreStmtCases (one_stmt_case patterns body others) = AreSomePatterns patterns × ArePatterns patterns × IsStmt body × AreStmtCases others

  pub AreHandlers : HandlerTrees → Type 0
  AreHandlers no_handlers = Unit {0}
  AreHandlers (one_handler pattern body others) = IsPattern pattern × IsStmt body × AreHandlers others
