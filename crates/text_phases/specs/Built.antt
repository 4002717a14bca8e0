-- What is built: the forms that have a meaning so far. Any other form is left out, and the first in text order is the fault's place.
use Rattle.std.specs.Prelude.{◌≡◌, Bool, true, false, not, if◌then◌else◌, List, [], ◌∷◌, Option, Some, None}
use Rattle.vdm_kinds.specs.declared.place.Place.{Place}
use Rattle.vdm_kinds.specs.declared.spec_fault.SpecFault.{SpecFault}
use Rattle.vdm_kinds.specs.declared.spec_kind.SpecKind.TheVariants.{LeftOut}
use Rattle.vdm_lexer.specs.Lexemes.{fault_at}
use Rattle.abstract_syntax.specs.Expressions.{
  ExprTree,
  ExprTrees,
  MaybeExpr,
  MapletTrees,
  FieldValueTrees,
  DefinedTrees,
  BranchTrees,
  CaseTrees,
  BindTree,
  BindTrees,
  PatternTree,
  PatternTrees,
  MapletPatterns,
  literal,
  named,
  qualified,
  old_value,
  self_object,
  current_time,
  undefined,
  result_value,
  bracketed,
  prefixed,
  joined,
  set_enumeration,
  set_range,
  set_comprehension,
  empty_map,
  map_enumeration,
  map_comprehension,
  sequence_enumeration,
  sequence_comprehension,
  make_tuple,
  make_token,
  make_record,
  modify_record,
  is_of_type,
  is_of_named,
  is_of_basic,
  is_of_class,
  is_of_base_class,
  same_class,
  same_base_class,
  create,
  apply,
  subsequence,
  select,
  select_of_class,
  select_part,
  let_in,
  let_be,
  def_in,
  if_else,
  cases_of,
  for_all,
  exists_some,
  exists_one,
  iota_of,
  no_exprs,
  one_expr,
  left_out,
  given_expr,
  no_maplets,
  one_maplet,
  no_field_values,
  one_field_value,
  no_defined,
  one_defined,
  no_branches,
  one_branch,
  no_cases,
  one_case,
  bind_in,
  no_binds,
  one_bind,
  any_value,
  bound,
  literal_pattern,
  equal_to,
  set_pattern,
  sequence_pattern,
  map_pattern,
  empty_map_pattern,
  tuple_pattern,
  record_pattern,
  concatenation_pattern,
  no_patterns,
  one_pattern,
  no_maplet_patterns,
  one_maplet_pattern,
  expr_place,
}
use Rattle.abstract_syntax.specs.Statements.{
  TargetStepTree,
  field_of,
  element_at,
  TargetTree,
  variable,
  variable_of_class,
  AssignmentTree,
  LocalTree,
  DclTree,
  StmtTree,
  StmtTrees,
  MaybeStmt,
  StmtBranches,
  StmtCases,
  HandlerTrees,
  block,
  assign,
  assign_together,
  call,
  returns,
  exits,
  let_then,
  let_be_then,
  def_then,
  if_then,
  cases_then,
  while_do,
  for_numbers,
  for_set,
  for_sequence,
  trap_exit,
  trap_exits,
  always_after,
  in_parallel,
  start_thread,
  start_threads,
  skips,
  errs,
  no_stmts,
  one_stmt,
  no_stmt,
  given_stmt,
  no_stmt_branches,
  one_stmt_branch,
  no_stmt_cases,
  one_stmt_case,
  no_handlers,
  one_handler,
}
use Rattle.abstract_syntax.specs.Classes.{
  InvariantTree,
  TypeDefTree,
  ValueDefTree,
  VariableTree,
  VariableItem,
  variable_item,
  invariant_item,
  Body,
  written,
  not_yet_specified,
  subclass_responsibility,
  FunctionTree,
  OperationTree,
  BlockTree,
  types,
  values,
  variables,
  functions,
  operations,
  thread_of,
  synchronisation,
  ClassTree,
  SpecTree,
}

-- what stands first: the one in front, where there is one
abbrev pub or_behind : {A : Type 0} → Option A → Option A → Option A
or_behind None behind = behind
or_behind (Some found) behind = Some found

-- nothing where the test holds, and else the place
abbrev pub unless : Bool → Place → Option Place
unless built place = if built then None else Some place

-- ---- expressions and patterns

abbrev mutual
  -- The first node that is not built, in text order, where objects may be made or not; what is not built and not listed here is looked at
  -- before its parts.
  pub unbuilt_in_expr : Bool → ExprTree → Option Place
  unbuilt_in_expr makes (literal value place) = None
  unbuilt_in_expr makes (named name place) = None
  unbuilt_in_expr makes (qualified class name name_place place) = None
  unbuilt_in_expr makes (old_value name place) = None
  unbuilt_in_expr makes (self_object place) = None
  unbuilt_in_expr makes (current_time place) = None
  unbuilt_in_expr makes (undefined place) = None
  unbuilt_in_expr makes (result_value place) = None
  unbuilt_in_expr makes (bracketed inner place) = unbuilt_in_expr makes inner
  unbuilt_in_expr makes (prefixed sign operand place) = unbuilt_in_expr makes operand
  unbuilt_in_expr makes (joined left sign right place) = or_behind (unbuilt_in_expr makes left) (unbuilt_in_expr makes right)
  unbuilt_in_expr makes (set_enumeration elements place) = unbuilt_in_exprs makes elements
  unbuilt_in_expr makes (set_range first last place) = or_behind (unbuilt_in_expr makes first) (unbuilt_in_expr makes last)
  unbuilt_in_expr makes (set_comprehension element binds condition place) =
      or_behind (unbuilt_in_expr makes element) (or_behind (unbuilt_in_binds makes binds) (unbuilt_in_maybe makes condition))
  unbuilt_in_expr makes (empty_map place) = None
  unbuilt_in_expr makes (map_enumeration pairs place) = unbuilt_in_maplets makes pairs
  unbuilt_in_expr makes (map_comprehension key value binds condition place) =
      or_behind (unbuilt_in_expr makes key)
      (or_behind (unbuilt_in_expr makes value) (or_behind (unbuilt_in_binds makes binds) (unbuilt_in_maybe makes condition)))
  unbuilt_in_expr makes (sequence_enumeration items place) = unbuilt_in_exprs makes items
  unbuilt_in_expr makes (sequence_comprehension item pattern set condition place) =
      or_behind (unbuilt_in_expr makes item)
      (or_behind (unbuilt_in_pattern makes pattern) (or_behind (unbuilt_in_expr makes set) (unbuilt_in_maybe makes condition)))
  unbuilt_in_expr makes (make_tuple parts place) = unbuilt_in_exprs makes parts
  unbuilt_in_expr makes (make_token inner place) = unbuilt_in_expr makes inner
  unbuilt_in_expr makes (make_record type_name fields place) = unbuilt_in_exprs makes fields
  unbuilt_in_expr makes (modify_record target fields place) = or_behind (unbuilt_in_expr makes target) (unbuilt_in_field_values makes fields)
  unbuilt_in_expr makes (is_of_type tested declared place) = unbuilt_in_expr makes tested
  unbuilt_in_expr makes (is_of_named type_name tested place) = unbuilt_in_expr makes tested
  unbuilt_in_expr makes (is_of_basic basic tested place) = unbuilt_in_expr makes tested
  unbuilt_in_expr makes (is_of_class class class_place tested place) = unbuilt_in_expr makes tested
  unbuilt_in_expr makes (is_of_base_class class class_place tested place) = unbuilt_in_expr makes tested
  unbuilt_in_expr makes (same_class left right place) = or_behind (unbuilt_in_expr makes left) (unbuilt_in_expr makes right)
  unbuilt_in_expr makes (same_base_class left right place) = or_behind (unbuilt_in_expr makes left) (unbuilt_in_expr makes right)
  unbuilt_in_expr makes (create class class_place arguments place) = or_behind (unless makes place) (unbuilt_in_exprs makes arguments)
  unbuilt_in_expr makes (apply head arguments place) = or_behind (unbuilt_in_expr makes head) (unbuilt_in_exprs makes arguments)
  unbuilt_in_expr makes (subsequence target first last place) =
      or_behind (unbuilt_in_expr makes target) (or_behind (unbuilt_in_expr makes first) (unbuilt_in_expr makes last))
  unbuilt_in_expr makes (select target name name_place place) = unbuilt_in_expr makes target
  unbuilt_in_expr makes (select_of_class target class class_place name name_place place) = unbuilt_in_expr makes target
  unbuilt_in_expr makes (select_part target number place) = unbuilt_in_expr makes target
  unbuilt_in_expr makes (let_in definitions body place) = or_behind (unbuilt_in_defined makes definitions) (unbuilt_in_expr makes body)
  unbuilt_in_expr makes (let_be bind condition body place) =
      or_behind (unbuilt_in_bind makes bind) (or_behind (unbuilt_in_maybe makes condition) (unbuilt_in_expr makes body))
  unbuilt_in_expr makes (def_in pattern value body place) =
      or_behind (unbuilt_in_pattern makes pattern) (or_behind (unbuilt_in_expr makes value) (unbuilt_in_expr makes body))
  unbuilt_in_expr makes (if_else condition value elseifs otherwise place) =
      or_behind (unbuilt_in_expr makes condition)
      (or_behind (unbuilt_in_expr makes value) (or_behind (unbuilt_in_branches makes elseifs) (unbuilt_in_expr makes otherwise)))
  unbuilt_in_expr makes (cases_of subject cases others place) =
      or_behind (unbuilt_in_expr makes subject) (or_behind (unbuilt_in_cases makes cases) (unbuilt_in_maybe makes others))
  unbuilt_in_expr makes (for_all binds condition place) = or_behind (unbuilt_in_binds makes binds) (unbuilt_in_expr makes condition)
  unbuilt_in_expr makes (exists_some binds condition place) = or_behind (unbuilt_in_binds makes binds) (unbuilt_in_expr makes condition)
  unbuilt_in_expr makes (exists_one bind condition place) = or_behind (unbuilt_in_bind makes bind) (unbuilt_in_expr makes condition)
  unbuilt_in_expr makes (iota_of bind condition place) = or_behind (unbuilt_in_bind makes bind) (unbuilt_in_expr makes condition)
  unbuilt_in_expr makes tree = Some (expr_place tree)

  -- that of the first that has one; so with all lists
  pub unbuilt_in_exprs : Bool → ExprTrees → Option Place
  unbuilt_in_exprs makes no_exprs = None
  unbuilt_in_exprs makes (one_expr e es) = or_behind (unbuilt_in_expr makes e) (unbuilt_in_exprs makes es)

  pub unbuilt_in_maybe : Bool → MaybeExpr → Option Place
  unbuilt_in_maybe makes left_out = None
  unbuilt_in_maybe makes (given_expr e) = unbuilt_in_expr makes e

  pub unbuilt_in_maplets : Bool → MapletTrees → Option Place
  unbuilt_in_maplets makes no_maplets = None
  unbuilt_in_maplets makes (one_maplet key value pairs) =
      or_behind (unbuilt_in_expr makes key) (or_behind (unbuilt_in_expr makes value) (unbuilt_in_maplets makes pairs))

  pub unbuilt_in_field_values : Bool → FieldValueTrees → Option Place
  unbuilt_in_field_values makes no_field_values = None
  unbuilt_in_field_values makes (one_field_value name name_place value fields) =
      or_behind (unbuilt_in_expr makes value) (unbuilt_in_field_values makes fields)

  pub unbuilt_in_defined : Bool → DefinedTrees → Option Place
  unbuilt_in_defined makes no_defined = None
  unbuilt_in_defined makes (one_defined pattern declared value definitions) =
      or_behind (unbuilt_in_pattern makes pattern) (or_behind (unbuilt_in_expr makes value) (unbuilt_in_defined makes definitions))

  pub unbuilt_in_branches : Bool → BranchTrees → Option Place
  unbuilt_in_branches makes no_branches = None
  unbuilt_in_branches makes (one_branch condition value others) =
      or_behind (unbuilt_in_expr makes condition) (or_behind (unbuilt_in_expr makes value) (unbuilt_in_branches makes others))

  pub unbuilt_in_cases : Bool → CaseTrees → Option Place
  unbuilt_in_cases makes no_cases = None
  unbuilt_in_cases makes (one_case patterns value cases) =
      or_behind (unbuilt_in_patterns makes patterns) (or_behind (unbuilt_in_expr makes value) (unbuilt_in_cases makes cases))

  pub unbuilt_in_bind : Bool → BindTree → Option Place
  unbuilt_in_bind makes (bind_in patterns set) = or_behind (unbuilt_in_patterns makes patterns) (unbuilt_in_expr makes set)

  pub unbuilt_in_binds : Bool → BindTrees → Option Place
  unbuilt_in_binds makes no_binds = None
  unbuilt_in_binds makes (one_bind bind binds) = or_behind (unbuilt_in_bind makes bind) (unbuilt_in_binds makes binds)

  pub unbuilt_in_pattern : Bool → PatternTree → Option Place
  unbuilt_in_pattern makes (any_value place) = None
  unbuilt_in_pattern makes (bound name place) = None
  unbuilt_in_pattern makes (literal_pattern value place) = None
  unbuilt_in_pattern makes (equal_to inner place) = unbuilt_in_expr makes inner
  unbuilt_in_pattern makes (set_pattern elements place) = unbuilt_in_patterns makes elements
  unbuilt_in_pattern makes (sequence_pattern items place) = unbuilt_in_patterns makes items
  unbuilt_in_pattern makes (map_pattern maplets place) = unbuilt_in_maplet_patterns makes maplets
  unbuilt_in_pattern makes (empty_map_pattern place) = None
  unbuilt_in_pattern makes (tuple_pattern parts place) = unbuilt_in_patterns makes parts
  unbuilt_in_pattern makes (record_pattern type_name fields place) = unbuilt_in_patterns makes fields
  unbuilt_in_pattern makes (concatenation_pattern parts place) = unbuilt_in_patterns makes parts

  pub unbuilt_in_patterns : Bool → PatternTrees → Option Place
  unbuilt_in_patterns makes no_patterns = None
  unbuilt_in_patterns makes (one_pattern p ps) = or_behind (unbuilt_in_pattern makes p) (unbuilt_in_patterns makes ps)

  pub unbuilt_in_maplet_patterns : Bool → MapletPatterns → Option Place
  unbuilt_in_maplet_patterns makes no_maplet_patterns = None
  unbuilt_in_maplet_patterns makes (one_maplet_pattern key value maplets) =
      or_behind (unbuilt_in_pattern makes key) (or_behind (unbuilt_in_pattern makes value) (unbuilt_in_maplet_patterns makes maplets))

-- a call statement is an application
abbrev pub unbuilt_in_call : ExprTree → Option Place
unbuilt_in_call (apply head arguments place) = unbuilt_in_expr true (apply head arguments place)
unbuilt_in_call tree = Some (expr_place tree)

-- ---- statements

-- a part that may be left out
abbrev pub unbuilt_if_given : Option ExprTree → Option Place
unbuilt_if_given None = None
unbuilt_if_given (Some part) = unbuilt_in_expr true part

-- of the steps into a variable their indices
abbrev pub unbuilt_in_step : TargetStepTree → Option Place
unbuilt_in_step (field_of name name_place place) = None
unbuilt_in_step (element_at index place) = unbuilt_in_expr true index

abbrev pub unbuilt_in_steps : List TargetStepTree → Option Place
unbuilt_in_steps [] = None
unbuilt_in_steps (step ∷ steps) = or_behind (unbuilt_in_step step) (unbuilt_in_steps steps)

abbrev pub unbuilt_in_target : TargetTree → Option Place
unbuilt_in_target (variable name steps place) = unbuilt_in_steps steps
unbuilt_in_target (variable_of_class class name name_place steps place) = unbuilt_in_steps steps

abbrev pub unbuilt_in_assignment : AssignmentTree → Option Place
unbuilt_in_assignment a = or_behind (unbuilt_in_target a.target) (unbuilt_in_expr true a.value)

abbrev pub unbuilt_in_assignments : List AssignmentTree → Option Place
unbuilt_in_assignments [] = None
unbuilt_in_assignments (a ∷ assignments) = or_behind (unbuilt_in_assignment a) (unbuilt_in_assignments assignments)

-- of local variables their initial values
abbrev pub unbuilt_in_each_local : List LocalTree → Option Place
unbuilt_in_each_local [] = None
unbuilt_in_each_local (local ∷ others) = or_behind (unbuilt_if_given local.initial) (unbuilt_in_each_local others)

abbrev pub unbuilt_in_locals : List DclTree → Option Place
unbuilt_in_locals [] = None
unbuilt_in_locals (dcl ∷ dcls) = or_behind (unbuilt_in_each_local dcl.locals) (unbuilt_in_locals dcls)

abbrev mutual
  -- one line a kind, with its parts in text order
  pub unbuilt_in_stmt : StmtTree → Option Place
  unbuilt_in_stmt (block locals statements place) = or_behind (unbuilt_in_locals locals) (unbuilt_in_stmts statements)
  unbuilt_in_stmt (assign target value place) = or_behind (unbuilt_in_target target) (unbuilt_in_expr true value)
  unbuilt_in_stmt (assign_together assignments place) = unbuilt_in_assignments assignments
  unbuilt_in_stmt (call application place) = unbuilt_in_call application
  unbuilt_in_stmt (returns value place) = unbuilt_if_given value
  unbuilt_in_stmt (exits value place) = unbuilt_if_given value
  unbuilt_in_stmt (let_then definitions body place) = or_behind (unbuilt_in_defined true definitions) (unbuilt_in_stmt body)
  unbuilt_in_stmt (let_be_then bind condition body place) =
      or_behind (unbuilt_in_bind true bind) (or_behind (unbuilt_if_given condition) (unbuilt_in_stmt body))
  unbuilt_in_stmt (def_then pattern value body place) =
      or_behind (unbuilt_in_pattern true pattern) (or_behind (unbuilt_in_expr true value) (unbuilt_in_stmt body))
  unbuilt_in_stmt (if_then condition body elseifs otherwise place) =
      or_behind (unbuilt_in_expr true condition)
      (or_behind (unbuilt_in_stmt body) (or_behind (unbuilt_in_branch_stmts elseifs) (unbuilt_in_maybe_stmt otherwise)))
  unbuilt_in_stmt (cases_then subject cases others place) =
      or_behind (unbuilt_in_expr true subject) (or_behind (unbuilt_in_case_stmts cases) (unbuilt_in_maybe_stmt others))
  unbuilt_in_stmt (while_do condition body place) = or_behind (unbuilt_in_expr true condition) (unbuilt_in_stmt body)
  unbuilt_in_stmt (for_numbers name name_place first last by body place) =
      or_behind (unbuilt_in_expr true first) (or_behind (unbuilt_in_expr true last) (or_behind (unbuilt_if_given by) (unbuilt_in_stmt body)))
  unbuilt_in_stmt (for_set pattern set body place) =
      or_behind (unbuilt_in_pattern true pattern) (or_behind (unbuilt_in_expr true set) (unbuilt_in_stmt body))
  unbuilt_in_stmt (for_sequence pattern items body place) =
      or_behind (unbuilt_in_pattern true pattern) (or_behind (unbuilt_in_expr true items) (unbuilt_in_stmt body))
  unbuilt_in_stmt (trap_exit pattern handler body place) =
      or_behind (unbuilt_in_pattern true pattern) (or_behind (unbuilt_in_stmt handler) (unbuilt_in_stmt body))
  unbuilt_in_stmt (trap_exits handlers body place) = or_behind (unbuilt_in_handlers handlers) (unbuilt_in_stmt body)
  unbuilt_in_stmt (always_after last body place) = or_behind (unbuilt_in_stmt last) (unbuilt_in_stmt body)
  unbuilt_in_stmt (in_parallel statements place) = unbuilt_in_stmts statements
  unbuilt_in_stmt (start_thread object place) = unbuilt_in_expr true object
  unbuilt_in_stmt (start_threads objects place) = unbuilt_in_expr true objects
  unbuilt_in_stmt (skips place) = None
  unbuilt_in_stmt (errs place) = None

  pub unbuilt_in_stmts : StmtTrees → Option Place
  unbuilt_in_stmts no_stmts = None
  unbuilt_in_stmts (one_stmt statement statements) = or_behind (unbuilt_in_stmt statement) (unbuilt_in_stmts statements)

  pub unbuilt_in_maybe_stmt : MaybeStmt → Option Place
  unbuilt_in_maybe_stmt no_stmt = None
  unbuilt_in_maybe_stmt (given_stmt statement) = unbuilt_in_stmt statement

  pub unbuilt_in_branch_stmts : StmtBranches → Option Place
  unbuilt_in_branch_stmts no_stmt_branches = None
  unbuilt_in_branch_stmts (one_stmt_branch condition statement branches) =
      or_behind (unbuilt_in_expr true condition) (or_behind (unbuilt_in_stmt statement) (unbuilt_in_branch_stmts branches))

  pub unbuilt_in_case_stmts : StmtCases → Option Place
  unbuilt_in_case_stmts no_stmt_cases = None
  unbuilt_in_case_stmts (one_stmt_case patterns statement cases) =
      or_behind (unbuilt_in_patterns true patterns) (or_behind (unbuilt_in_stmt statement) (unbuilt_in_case_stmts cases))

  pub unbuilt_in_handlers : HandlerTrees → Option Place
  unbuilt_in_handlers no_handlers = None
  unbuilt_in_handlers (one_handler pattern statement handlers) =
      or_behind (unbuilt_in_pattern true pattern) (or_behind (unbuilt_in_stmt statement) (unbuilt_in_handlers handlers))

-- ---- types, values and functions

-- the invariant of a type: its pattern, and behind it its condition
abbrev pub unbuilt_in_invariant : Option InvariantTree → Option Place
unbuilt_in_invariant None = None
unbuilt_in_invariant (Some i) = or_behind (unbuilt_in_pattern true i.pattern) (unbuilt_in_expr true i.condition)

-- nothing of a type but its invariant is evaluated
abbrev pub unbuilt_in_types : List TypeDefTree → Option Place
unbuilt_in_types [] = None
unbuilt_in_types (t ∷ ts) = or_behind (unbuilt_in_invariant t.invariant) (unbuilt_in_types ts)

abbrev pub unbuilt_in_values : List ValueDefTree → Option Place
unbuilt_in_values [] = None
unbuilt_in_values (v ∷ vs) = or_behind (unbuilt_in_expr true v.value) (unbuilt_in_values vs)

-- that of patterns one after the other
abbrev pub unbuilt_in_each_pattern : List PatternTree → Option Place
unbuilt_in_each_pattern [] = None
unbuilt_in_each_pattern (pattern ∷ patterns) = or_behind (unbuilt_in_pattern true pattern) (unbuilt_in_each_pattern patterns)

-- a body that isn't written is built
abbrev pub unbuilt_if_written : Body ExprTree → Option Place
unbuilt_if_written (written body) = unbuilt_in_expr true body
unbuilt_if_written not_yet_specified = None
unbuilt_if_written subclass_responsibility = None

-- what is evaluated of a function: its `measure` never is
abbrev pub unbuilt_in_function : FunctionTree → Option Place
unbuilt_in_function f =
    or_behind (unbuilt_in_each_pattern f.patterns)
    (or_behind (unbuilt_if_written f.body) (or_behind (unbuilt_if_given f.pre) (unbuilt_if_given f.post)))

abbrev pub unbuilt_in_functions : List FunctionTree → Option Place
unbuilt_in_functions [] = None
unbuilt_in_functions (f ∷ fs) = or_behind (unbuilt_in_function f) (unbuilt_in_functions fs)

-- ---- variables and operations

-- the initial value of a static variable makes no object
abbrev pub unbuilt_in_initial : Bool → Option ExprTree → Option Place
unbuilt_in_initial is_static None = None
unbuilt_in_initial is_static (Some value) = unbuilt_in_expr (not is_static) value

abbrev pub unbuilt_in_variable : VariableTree → Option Place
unbuilt_in_variable v = unbuilt_in_initial v.access.is_static v.initial

-- an invariant of objects makes none
abbrev pub unbuilt_in_item : VariableItem → Option Place
unbuilt_in_item (variable_item v) = unbuilt_in_variable v
unbuilt_in_item (invariant_item condition place) = unbuilt_in_expr false condition

abbrev pub unbuilt_in_items : List VariableItem → Option Place
unbuilt_in_items [] = None
unbuilt_in_items (item ∷ items) = or_behind (unbuilt_in_item item) (unbuilt_in_items items)

-- a body that isn't written is built
abbrev pub unbuilt_in_body : Body StmtTree → Option Place
unbuilt_in_body (written body) = unbuilt_in_stmt body
unbuilt_in_body not_yet_specified = None
unbuilt_in_body subclass_responsibility = None

-- what is evaluated of an operation
abbrev pub unbuilt_in_operation : OperationTree → Option Place
unbuilt_in_operation o =
    or_behind (unbuilt_in_each_pattern o.patterns)
    (or_behind (unbuilt_in_body o.body) (or_behind (unbuilt_if_given o.pre) (unbuilt_if_given o.post)))

abbrev pub unbuilt_in_operations : List OperationTree → Option Place
unbuilt_in_operations [] = None
unbuilt_in_operations (definition ∷ definitions) = or_behind (unbuilt_in_operation definition) (unbuilt_in_operations definitions)

-- ---- classes

-- no thread and no synchronisation is built
abbrev pub unbuilt_in_class_block : BlockTree → Option Place
unbuilt_in_class_block (types definitions place) = unbuilt_in_types definitions
unbuilt_in_class_block (values definitions place) = unbuilt_in_values definitions
unbuilt_in_class_block (variables items place) = unbuilt_in_items items
unbuilt_in_class_block (functions definitions place) = unbuilt_in_functions definitions
unbuilt_in_class_block (operations definitions place) = unbuilt_in_operations definitions
unbuilt_in_class_block (thread_of thread place) = Some place
unbuilt_in_class_block (synchronisation clauses place) = Some place

abbrev pub unbuilt_in_class_blocks : List BlockTree → Option Place
unbuilt_in_class_blocks [] = None
unbuilt_in_class_blocks (found ∷ blocks) = or_behind (unbuilt_in_class_block found) (unbuilt_in_class_blocks blocks)

abbrev pub unbuilt_in_class : ClassTree → Option Place
unbuilt_in_class class = unbuilt_in_class_blocks class.blocks

abbrev pub unbuilt_in_classes : List ClassTree → Option Place
unbuilt_in_classes [] = None
unbuilt_in_classes (class ∷ classes) = or_behind (unbuilt_in_class class) (unbuilt_in_classes classes)

abbrev pub unbuilt_in_spec : SpecTree → Option Place
unbuilt_in_spec spec = unbuilt_in_classes spec.classes

-- what has no meaning yet of a specification and an expression behind it is left out
abbrev pub left_out_at : Option Place → Option SpecFault
left_out_at None = None
left_out_at (Some place) = Some (fault_at LeftOut place)

abbrev pub unbuilt_fault : SpecTree → ExprTree → Option SpecFault
unbuilt_fault spec tree = left_out_at (or_behind (unbuilt_in_spec spec) (unbuilt_in_expr true tree))

-- all of it is built
abbrev pub IsBuilt : SpecTree → Type 0
IsBuilt spec = unbuilt_in_spec spec ≡ None

abbrev pub IsBuiltExpr : ExprTree → Type 0
IsBuiltExpr tree = unbuilt_in_expr true tree ≡ None
