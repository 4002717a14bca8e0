-- How deep trees are: how many expressions, patterns, types and statements stand in one another. A name, a bind, a target, a local
-- variable, an alternative, a definition, a block and a class are no nodes, and count only what stands in them.
use Rattle.std.specs.Prelude.{ℕ, ◌+◌, max, List, [], ◌∷◌, map, Option, Some, None}
use Rattle.abstract_syntax.specs.Types.{
  TypeTree,
  TypeTrees,
  basic_type,
  quote_type,
  set_type,
  seq_type,
  seq1_type,
  map_type,
  inmap_type,
  optional_type,
  bracketed_type,
  named_type,
  product_type,
  union_type,
  no_types,
  one_type,
}
use Rattle.abstract_syntax.specs.Expressions.{
  ExprTree,
  ExprTrees,
  MaybeExpr,
  MapletTrees,
  FieldValueTrees,
  DefinedTrees,
  BranchTrees,
  CaseTrees,
  BindTree,
  BindTrees,
  PatternTree,
  PatternTrees,
  MapletPatterns,
  literal,
  named,
  qualified,
  old_value,
  self_object,
  current_time,
  undefined,
  result_value,
  bracketed,
  prefixed,
  joined,
  set_enumeration,
  set_range,
  set_comprehension,
  empty_map,
  map_enumeration,
  map_comprehension,
  sequence_enumeration,
  sequence_comprehension,
  make_tuple,
  make_token,
  make_record,
  modify_record,
  is_of_type,
  is_of_named,
  is_of_basic,
  is_of_class,
  is_of_base_class,
  same_class,
  same_base_class,
  create,
  history,
  apply,
  subsequence,
  select,
  select_of_class,
  select_part,
  let_in,
  let_be,
  def_in,
  if_else,
  cases_of,
  for_all,
  exists_some,
  exists_one,
  iota_of,
  no_exprs,
  one_expr,
  left_out,
  given_expr,
  no_maplets,
  one_maplet,
  no_field_values,
  one_field_value,
  no_defined,
  one_defined,
  no_branches,
  one_branch,
  no_cases,
  one_case,
  bind_in,
  no_binds,
  one_bind,
  any_value,
  bound,
  literal_pattern,
  equal_to,
  set_pattern,
  sequence_pattern,
  map_pattern,
  empty_map_pattern,
  tuple_pattern,
  record_pattern,
  concatenation_pattern,
  no_patterns,
  one_pattern,
  no_maplet_patterns,
  one_maplet_pattern,
}
use Rattle.abstract_syntax.specs.Statements.{
  TargetStepTree,
  field_of,
  element_at,
  TargetTree,
  variable,
  variable_of_class,
  AssignmentTree,
  LocalTree,
  DclTree,
  StmtTree,
  StmtTrees,
  MaybeStmt,
  StmtBranches,
  StmtCases,
  HandlerTrees,
  block,
  assign,
  assign_together,
  call,
  returns,
  exits,
  let_then,
  let_be_then,
  def_then,
  if_then,
  cases_then,
  while_do,
  for_numbers,
  for_set,
  for_sequence,
  trap_exit,
  trap_exits,
  always_after,
  in_parallel,
  start_thread,
  start_threads,
  skips,
  errs,
  no_stmts,
  one_stmt,
  no_stmt,
  given_stmt,
  no_stmt_branches,
  one_stmt_branch,
  no_stmt_cases,
  one_stmt_case,
  no_handlers,
  one_handler,
}
use Rattle.abstract_syntax.specs.Classes.{
  FieldTree,
  TypeBody,
  same_as,
  with_fields,
  InvariantTree,
  TypeDefTree,
  ValueDefTree,
  VariableTree,
  VariableItem,
  variable_item,
  invariant_item,
  Body,
  written,
  not_yet_specified,
  subclass_responsibility,
  FunctionTree,
  OperationTree,
  PhaseTree,
  ThreadTree,
  periodic,
  procedural,
  SyncTree,
  permission,
  mutex_all,
  mutex_of,
  BlockTree,
  types,
  values,
  variables,
  functions,
  operations,
  thread_of,
  synchronisation,
  ClassTree,
  SpecTree,
}

-- ---- types

abbrev mutual
  pub type_depth : TypeTree → ℕ
  type_depth (basic_type basic place) = 1
  type_depth (quote_type name place) = 1
  type_depth (set_type element place) = type_depth element + 1
  type_depth (seq_type element place) = type_depth element + 1
  type_depth (seq1_type element place) = type_depth element + 1
  type_depth (map_type key value place) = max (type_depth key) (type_depth value) + 1
  type_depth (inmap_type key value place) = max (type_depth key) (type_depth value) + 1
  type_depth (optional_type inner place) = type_depth inner + 1
  type_depth (bracketed_type inner place) = type_depth inner + 1
  type_depth (named_type name place) = 1
  type_depth (product_type factors place) = types_depth factors + 1
  type_depth (union_type alternatives place) = types_depth alternatives + 1

  -- that of the deepest, or 0
  pub types_depth : TypeTrees → ℕ
  types_depth no_types = 0
  types_depth (one_type t ts) = max (type_depth t) (types_depth ts)

abbrev pub declared_depth : Option TypeTree → ℕ
declared_depth None = 0
declared_depth (Some declared) = type_depth declared

-- ---- expressions, patterns and binds

abbrev mutual
  pub expr_depth : ExprTree → ℕ
  expr_depth (literal value place) = 1
  expr_depth (named name place) = 1
  expr_depth (qualified class name name_place place) = 1
  expr_depth (old_value name place) = 1
  expr_depth (self_object place) = 1
  expr_depth (current_time place) = 1
  expr_depth (undefined place) = 1
  expr_depth (result_value place) = 1
  expr_depth (bracketed inner place) = expr_depth inner + 1
  expr_depth (prefixed sign operand place) = expr_depth operand + 1
  expr_depth (joined left sign right place) = max (expr_depth left) (expr_depth right) + 1
  expr_depth (set_enumeration elements place) = exprs_depth elements + 1
  expr_depth (set_range first last place) = max (expr_depth first) (expr_depth last) + 1
  expr_depth (set_comprehension element binds condition place) =
      max (expr_depth element) (max (binds_depth binds) (maybe_depth condition)) + 1
  expr_depth (empty_map place) = 1
  expr_depth (map_enumeration pairs place) = maplets_depth pairs + 1
  expr_depth (map_comprehension key value binds condition place) =
      max (max (expr_depth key) (expr_depth value)) (max (binds_depth binds) (maybe_depth condition)) + 1
  expr_depth (sequence_enumeration items place) = exprs_depth items + 1
  expr_depth (sequence_comprehension item pattern set condition place) =
      max (max (expr_depth item) (pattern_depth pattern)) (max (expr_depth set) (maybe_depth condition)) + 1
  expr_depth (make_tuple parts place) = exprs_depth parts + 1
  expr_depth (make_token inner place) = expr_depth inner + 1
  expr_depth (make_record type_name fields place) = exprs_depth fields + 1
  expr_depth (modify_record target fields place) = max (expr_depth target) (field_values_depth fields) + 1
  expr_depth (is_of_type tested declared place) = max (expr_depth tested) (type_depth declared) + 1
  expr_depth (is_of_named type_name tested place) = expr_depth tested + 1
  expr_depth (is_of_basic basic tested place) = expr_depth tested + 1
  expr_depth (is_of_class class class_place tested place) = expr_depth tested + 1
  expr_depth (is_of_base_class class class_place tested place) = expr_depth tested + 1
  expr_depth (same_class left right place) = max (expr_depth left) (expr_depth right) + 1
  expr_depth (same_base_class left right place) = max (expr_depth left) (expr_depth right) + 1
  expr_depth (create class class_place arguments place) = exprs_depth arguments + 1
  expr_depth (history counter names place) = 1
  expr_depth (apply head arguments place) = max (expr_depth head) (exprs_depth arguments) + 1
  expr_depth (subsequence target first last place) = max (expr_depth target) (max (expr_depth first) (expr_depth last)) + 1
  expr_depth (select target name name_place place) = expr_depth target + 1
  expr_depth (select_of_class target class class_place name name_place place) = expr_depth target + 1
  expr_depth (select_part target number place) = expr_depth target + 1
  expr_depth (let_in definitions body place) = max (defined_depth definitions) (expr_depth body) + 1
  expr_depth (let_be bind condition body place) = max (bind_depth bind) (max (maybe_depth condition) (expr_depth body)) + 1
  expr_depth (def_in pattern value body place) = max (pattern_depth pattern) (max (expr_depth value) (expr_depth body)) + 1
  expr_depth (if_else condition value elseifs otherwise place) =
      max (max (expr_depth condition) (expr_depth value)) (max (branches_depth elseifs) (expr_depth otherwise)) + 1
  expr_depth (cases_of subject cases others place) = max (expr_depth subject) (max (cases_depth cases) (maybe_depth others)) + 1
  expr_depth (for_all binds condition place) = max (binds_depth binds) (expr_depth condition) + 1
  expr_depth (exists_some binds condition place) = max (binds_depth binds) (expr_depth condition) + 1
  expr_depth (exists_one bind condition place) = max (bind_depth bind) (expr_depth condition) + 1
  expr_depth (iota_of bind condition place) = max (bind_depth bind) (expr_depth condition) + 1

  -- that of the deepest, or 0; so with all lists
  pub exprs_depth : ExprTrees → ℕ
  exprs_depth no_exprs = 0
  exprs_depth (one_expr e es) = max (expr_depth e) (exprs_depth es)

  pub maybe_depth : MaybeExpr → ℕ
  maybe_depth left_out = 0
  maybe_depth (given_expr e) = expr_depth e

  pub maplets_depth : MapletTrees → ℕ
  maplets_depth no_maplets = 0
  maplets_depth (one_maplet key value pairs) = max (max (expr_depth key) (expr_depth value)) (maplets_depth pairs)

  pub field_values_depth : FieldValueTrees → ℕ
  field_values_depth no_field_values = 0
  field_values_depth (one_field_value name name_place value fields) = max (expr_depth value) (field_values_depth fields)

  pub defined_depth : DefinedTrees → ℕ
  defined_depth no_defined = 0
  defined_depth (one_defined pattern declared value definitions) =
      max (max (pattern_depth pattern) (max (declared_depth declared) (expr_depth value))) (defined_depth definitions)

  pub branches_depth : BranchTrees → ℕ
  branches_depth no_branches = 0
  branches_depth (one_branch condition value others) = max (max (expr_depth condition) (expr_depth value)) (branches_depth others)

  pub cases_depth : CaseTrees → ℕ
  cases_depth no_cases = 0
  cases_depth (one_case patterns value cases) = max (max (patterns_depth patterns) (expr_depth value)) (cases_depth cases)

  pub bind_depth : BindTree → ℕ
  bind_depth (bind_in patterns set) = max (patterns_depth patterns) (expr_depth set)

  pub binds_depth : BindTrees → ℕ
  binds_depth no_binds = 0
  binds_depth (one_bind bind binds) = max (bind_depth bind) (binds_depth binds)

  pub pattern_depth : PatternTree → ℕ
  pattern_depth (any_value place) = 1
  pattern_depth (bound name place) = 1
  pattern_depth (literal_pattern value place) = 1
  pattern_depth (equal_to inner place) = expr_depth inner + 1
  pattern_depth (set_pattern elements place) = patterns_depth elements + 1
  pattern_depth (sequence_pattern items place) = patterns_depth items + 1
  pattern_depth (map_pattern maplets place) = maplet_patterns_depth maplets + 1
  pattern_depth (empty_map_pattern place) = 1
  pattern_depth (tuple_pattern parts place) = patterns_depth parts + 1
  pattern_depth (record_pattern type_name fields place) = patterns_depth fields + 1
  pattern_depth (concatenation_pattern parts place) = patterns_depth parts + 1

  pub patterns_depth : PatternTrees → ℕ
  patterns_depth no_patterns = 0
  patterns_depth (one_pattern p ps) = max (pattern_depth p) (patterns_depth ps)

  pub maplet_patterns_depth : MapletPatterns → ℕ
  maplet_patterns_depth no_maplet_patterns = 0
  maplet_patterns_depth (one_maplet_pattern key value maplets) =
      max (max (pattern_depth key) (pattern_depth value)) (maplet_patterns_depth maplets)

-- ---- statements

abbrev pub value_depth : Option ExprTree → ℕ
value_depth None = 0
value_depth (Some value) = expr_depth value

-- the greatest of these numbers, or 0
abbrev pub greatest : List ℕ → ℕ
greatest [] = 0
greatest (n ∷ ns) = max n (greatest ns)

abbrev pub target_step_depth : TargetStepTree → ℕ
target_step_depth (field_of name name_place place) = 0
target_step_depth (element_at index place) = expr_depth index

abbrev pub target_depth : TargetTree → ℕ
target_depth (variable name steps place) = greatest (map target_step_depth steps)
target_depth (variable_of_class class name name_place steps place) = greatest (map target_step_depth steps)

abbrev pub assignment_depth : AssignmentTree → ℕ
assignment_depth a = max (target_depth a.target) (expr_depth a.value)

abbrev pub local_depth : LocalTree → ℕ
local_depth l = max (type_depth l.declared) (value_depth l.initial)

abbrev pub dcl_depth : DclTree → ℕ
dcl_depth d = greatest (map local_depth d.locals)

abbrev mutual
  pub stmt_depth : StmtTree → ℕ
  stmt_depth (block locals statements place) = max (greatest (map dcl_depth locals)) (stmts_depth statements) + 1
  stmt_depth (assign target value place) = max (target_depth target) (expr_depth value) + 1
  stmt_depth (assign_together assignments place) = greatest (map assignment_depth assignments) + 1
  stmt_depth (call application place) = expr_depth application + 1
  stmt_depth (returns value place) = value_depth value + 1
  stmt_depth (exits value place) = value_depth value + 1
  stmt_depth (let_then definitions body place) = max (defined_depth definitions) (stmt_depth body) + 1
  stmt_depth (let_be_then bind condition body place) = max (bind_depth bind) (max (value_depth condition) (stmt_depth body)) + 1
  stmt_depth (def_then pattern value body place) = max (pattern_depth pattern) (max (expr_depth value) (stmt_depth body)) + 1
  stmt_depth (if_then condition body elseifs otherwise place) =
      max (max (expr_depth condition) (stmt_depth body)) (max (stmt_branches_depth elseifs) (maybe_stmt_depth otherwise)) + 1
  stmt_depth (cases_then subject cases others place) = max (expr_depth subject) (max (stmt_cases_depth cases) (maybe_stmt_depth others)) + 1
  stmt_depth (while_do condition body place) = max (expr_depth condition) (stmt_depth body) + 1
  stmt_depth (for_numbers name name_place first last step body place) =
      max (max (expr_depth first) (expr_depth last)) (max (value_depth step) (stmt_depth body)) + 1
  stmt_depth (for_set pattern set body place) = max (pattern_depth pattern) (max (expr_depth set) (stmt_depth body)) + 1
  stmt_depth (for_sequence pattern sequence body place) = max (pattern_depth pattern) (max (expr_depth sequence) (stmt_depth body)) + 1
  stmt_depth (trap_exit pattern handler body place) = max (pattern_depth pattern) (max (stmt_depth handler) (stmt_depth body)) + 1
  stmt_depth (trap_exits traps body place) = max (handlers_depth traps) (stmt_depth body) + 1
  stmt_depth (always_after last body place) = max (stmt_depth last) (stmt_depth body) + 1
  stmt_depth (in_parallel statements place) = stmts_depth statements + 1
  stmt_depth (start_thread object place) = expr_depth object + 1
  stmt_depth (start_threads objects place) = expr_depth objects + 1
  stmt_depth (skips place) = 1
  stmt_depth (errs place) = 1

  pub stmts_depth : StmtTrees → ℕ
  stmts_depth no_stmts = 0
  stmts_depth (one_stmt s ss) = max (stmt_depth s) (stmts_depth ss)

  pub maybe_stmt_depth : MaybeStmt → ℕ
  maybe_stmt_depth no_stmt = 0
  maybe_stmt_depth (given_stmt s) = stmt_depth s

  pub stmt_branches_depth : StmtBranches → ℕ
  stmt_branches_depth no_stmt_branches = 0
  stmt_branches_depth (one_stmt_branch condition body others) =
      max (max (expr_depth condition) (stmt_depth body)) (stmt_branches_depth others)

  pub stmt_cases_depth : StmtCases → ℕ
  stmt_cases_depth no_stmt_cases = 0
  stmt_cases_depth (one_stmt_case patterns body cases) = max (max (patterns_depth patterns) (stmt_depth body)) (stmt_cases_depth cases)

  pub handlers_depth : HandlerTrees → ℕ
  handlers_depth no_handlers = 0
  handlers_depth (one_handler pattern body others) = max (max (pattern_depth pattern) (stmt_depth body)) (handlers_depth others)

-- ---- definitions: the deepest of their parts

abbrev pub type_list_depth : List TypeTree → ℕ
type_list_depth declared = greatest (map type_depth declared)

-- several parameters were written as a product, which is a node
abbrev pub parameters_depth : List TypeTree → ℕ
parameters_depth [] = 0
parameters_depth (only ∷ []) = type_depth only
parameters_depth (first ∷ second ∷ others) = type_list_depth (first ∷ second ∷ others) + 1

abbrev pub invariant_depth : Option InvariantTree → ℕ
invariant_depth None = 0
invariant_depth (Some i) = max (pattern_depth i.pattern) (expr_depth i.condition)

abbrev pub type_body_depth : TypeBody → ℕ
type_body_depth (same_as declared) = type_depth declared
type_body_depth (with_fields fields) = greatest (map (λ (f : FieldTree). type_depth f.declared) fields)

abbrev pub type_def_depth : TypeDefTree → ℕ
type_def_depth t = max (type_body_depth t.body) (invariant_depth t.invariant)

abbrev pub value_def_depth : ValueDefTree → ℕ
value_def_depth v = max (declared_depth v.declared) (expr_depth v.value)

abbrev pub variable_depth : VariableTree → ℕ
variable_depth v = max (type_depth v.declared) (value_depth v.initial)

abbrev pub variable_item_depth : VariableItem → ℕ
variable_item_depth (variable_item v) = variable_depth v
variable_item_depth (invariant_item condition place) = expr_depth condition

abbrev pub body_depth : {A : Type 0} → (A → ℕ) → Body A → ℕ
body_depth depth (written body) = depth body
body_depth depth not_yet_specified = 0
body_depth depth subclass_responsibility = 0

abbrev pub function_depth : FunctionTree → ℕ
function_depth f =
    greatest (parameters_depth f.parameters ∷ type_depth f.result_type ∷ greatest (map pattern_depth f.patterns)
    ∷ body_depth expr_depth f.body ∷ value_depth f.pre ∷ value_depth f.post ∷ value_depth f.measure ∷ [])

abbrev pub operation_depth : OperationTree → ℕ
operation_depth o =
    greatest (parameters_depth o.parameters ∷ declared_depth o.result_type ∷ greatest (map pattern_depth o.patterns)
    ∷ body_depth stmt_depth o.body ∷ value_depth o.pre ∷ value_depth o.post ∷ [])

abbrev pub phase_depth : Option PhaseTree → ℕ
phase_depth None = 0
phase_depth (Some p) = max (expr_depth p.jitter) (max (expr_depth p.delay) (expr_depth p.offset))

abbrev pub thread_depth : ThreadTree → ℕ
thread_depth (periodic period phase name name_place place) = max (expr_depth period) (phase_depth phase)
thread_depth (procedural body) = stmt_depth body

abbrev pub sync_depth : SyncTree → ℕ
sync_depth (permission name name_place condition place) = expr_depth condition
sync_depth (mutex_all place) = 0
sync_depth (mutex_of names place) = 0

abbrev pub block_depth : BlockTree → ℕ
block_depth (types definitions place) = greatest (map type_def_depth definitions)
block_depth (values definitions place) = greatest (map value_def_depth definitions)
block_depth (variables items place) = greatest (map variable_item_depth items)
block_depth (functions definitions place) = greatest (map function_depth definitions)
block_depth (operations definitions place) = greatest (map operation_depth definitions)
block_depth (thread_of thread place) = thread_depth thread
block_depth (synchronisation clauses place) = greatest (map sync_depth clauses)

abbrev pub class_depth : ClassTree → ℕ
class_depth c = greatest (map block_depth c.blocks)

abbrev pub spec_depth : SpecTree → ℕ
spec_depth s = greatest (map class_depth s.classes)
