-- The pure trees of statements. A node's place is that of its first token.
use Rattle.std.specs.Prelude.{List, Option}
use Rattle.vdm_kinds.specs.declared.name.Name.{Name}
use Rattle.vdm_kinds.specs.declared.place.Place.{Place}
use Rattle.abstract_syntax.specs.Types.{TypeTree}
use Rattle.abstract_syntax.specs.Expressions.{ExprTree, BindTree, DefinedTrees, PatternTree, PatternTrees}

-- one step into what a target names
pub data TargetStepTree : Type 0 where
  -- `.f`: the name of the field at its place, behind the `.`
  field_of : Name → Place → Place → TargetStepTree
  -- `(e)`
  element_at : ExprTree → Place → TargetStepTree

-- what an assignment writes to: a variable, at the place of its first token, and the steps into it
pub data TargetTree : Type 0 where
  -- `x.f(e)`
  variable : Name → List TargetStepTree → Place → TargetTree
  -- ``C`x.f(e)``: the class, and the name at its place
  variable_of_class : Name → Name → Place → List TargetStepTree → Place → TargetTree

-- the place of a target
abbrev pub target_place : TargetTree → Place
target_place (variable name steps place) = place
target_place (variable_of_class class name name_place steps place) = place

-- a target and the value for it
pub record AssignmentTree : Type 0 where
  pub target : TargetTree
  pub value : ExprTree

-- a local variable: its name at its place, its type, and its initial value where one is given
pub record LocalTree : Type 0 where
  pub name : Name
  pub name_place : Place
  pub declared : TypeTree
  pub initial : Option ExprTree

-- `dcl x : S := a, y : T`, at the place of the word
pub record DclTree : Type 0 where
  pub locals : List LocalTree
  pub place : Place

mutual
  pub data StmtTree : Type 0 where
    -- a block in brackets: its local variables, and its statements
    block : List DclTree → StmtTrees → Place → StmtTree
    -- an assignment
    assign : TargetTree → ExprTree → Place → StmtTree
    -- `atomic(t := a; u := b)`
    assign_together : List AssignmentTree → Place → StmtTree
    -- a call, which is an application
    call : ExprTree → Place → StmtTree
    -- a return, with a value or without
    returns : Option ExprTree → Place → StmtTree
    -- an exit, with a value or without
    exits : Option ExprTree → Place → StmtTree
    -- `let p : T = a, q = b in s`
    let_then : DefinedTrees → StmtTree → Place → StmtTree
    -- `let x in set S be st p in s`
    let_be_then : BindTree → Option ExprTree → StmtTree → Place → StmtTree
    -- `def p = a in s`
    def_then : PatternTree → ExprTree → StmtTree → Place → StmtTree
    -- `if c then s elseif d then t else u`: the condition, the statement, those of each `elseif`, and the statement behind `else`
    if_then : ExprTree → StmtTree → StmtBranches → MaybeStmt → Place → StmtTree
    -- `cases e: p, q -> s, others -> t end`
    cases_then : ExprTree → StmtCases → MaybeStmt → Place → StmtTree
    -- `while c do s`
    while_do : ExprTree → StmtTree → Place → StmtTree
    -- `for i = a to b by c do s`: the name at its place
    for_numbers : Name → Place → ExprTree → ExprTree → Option ExprTree → StmtTree → Place → StmtTree
    -- `for all p in set S do s`
    for_set : PatternTree → ExprTree → StmtTree → Place → StmtTree
    -- `for p in q do s`
    for_sequence : PatternTree → ExprTree → StmtTree → Place → StmtTree
    -- `trap p with s in t`
    trap_exit : PatternTree → StmtTree → StmtTree → Place → StmtTree
    -- `tixe {p |-> s, q |-> t} in u`
    trap_exits : HandlerTrees → StmtTree → Place → StmtTree
    -- `always s in t`
    always_after : StmtTree → StmtTree → Place → StmtTree
    -- `|| (s, t)`
    in_parallel : StmtTrees → Place → StmtTree
    -- `start(e)`
    start_thread : ExprTree → Place → StmtTree
    -- `startlist(e)`
    start_threads : ExprTree → Place → StmtTree
    -- `skip`
    skips : Place → StmtTree
    -- `error`
    errs : Place → StmtTree

  -- a list of statements
  pub data StmtTrees : Type 0 where
    no_stmts : StmtTrees
    one_stmt : StmtTree → StmtTrees → StmtTrees

  -- a statement that may be left out
  pub data MaybeStmt : Type 0 where
    no_stmt : MaybeStmt
    given_stmt : StmtTree → MaybeStmt

  -- a list of `elseif c then s`
  pub data StmtBranches : Type 0 where
    no_stmt_branches : StmtBranches
    one_stmt_branch : ExprTree → StmtTree → StmtBranches → StmtBranches

  -- a list of `p, q -> s`
  pub data StmtCases : Type 0 where
    no_stmt_cases : StmtCases
    one_stmt_case : PatternTrees → StmtTree → StmtCases → StmtCases

  -- a list of `p |-> s`
  pub data HandlerTrees : Type 0 where
    no_handlers : HandlerTrees
    one_handler : PatternTree → StmtTree → HandlerTrees → HandlerTrees

-- the place of a node
abbrev pub stmt_place : StmtTree → Place
stmt_place (block locals statements place) = place
stmt_place (assign target value place) = place
stmt_place (assign_together assignments place) = place
stmt_place (call application place) = place
stmt_place (returns value place) = place
stmt_place (exits value place) = place
stmt_place (let_then definitions body place) = place
stmt_place (let_be_then bind condition body place) = place
stmt_place (def_then pattern value body place) = place
stmt_place (if_then condition body elseifs otherwise place) = place
stmt_place (cases_then subject cases others place) = place
stmt_place (while_do condition body place) = place
stmt_place (for_numbers name name_place first last step body place) = place
stmt_place (for_set pattern set body place) = place
stmt_place (for_sequence pattern sequence body place) = place
stmt_place (trap_exit pattern handler body place) = place
stmt_place (trap_exits traps body place) = place
stmt_place (always_after last body place) = place
stmt_place (in_parallel statements place) = place
stmt_place (start_thread object place) = place
stmt_place (start_threads objects place) = place
stmt_place (skips place) = place
stmt_place (errs place) = place
