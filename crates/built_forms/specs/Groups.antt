-- The first form that is not built of a statement, by groups of kinds: the program has a table for each.
use Rattle.std.specs.Prelude.{true, Option, None}
use Rattle.vdm_kinds.specs.declared.place.Place.{Place}
use Rattle.abstract_syntax.specs.Statements.{
  StmtTree,
  block,
  assign,
  assign_together,
  call,
  returns,
  exits,
  let_then,
  let_be_then,
  def_then,
  if_then,
  cases_then,
  while_do,
  for_numbers,
  for_set,
  for_sequence,
  trap_exit,
  trap_exits,
  always_after,
  in_parallel,
  start_thread,
  start_threads,
}
use Rattle.text_phases.specs.Built.{
  or_behind,
  unbuilt_in_expr,
  unbuilt_in_call,
  unbuilt_in_defined,
  unbuilt_in_bind,
  unbuilt_in_pattern,
  unbuilt_if_given,
  unbuilt_in_target,
  unbuilt_in_assignments,
  unbuilt_in_locals,
  unbuilt_in_stmt,
  unbuilt_in_stmts,
  unbuilt_in_maybe_stmt,
  unbuilt_in_branch_stmts,
  unbuilt_in_case_stmts,
  unbuilt_in_handlers,
}

-- of what has no statement in it; of all else nothing
abbrev pub in_simple : StmtTree → Option Place
in_simple (assign target value place) = or_behind (unbuilt_in_target target) (unbuilt_in_expr true value)
in_simple (assign_together assignments place) = unbuilt_in_assignments assignments
in_simple (call application place) = unbuilt_in_call application
in_simple (returns value place) = unbuilt_if_given value
in_simple (exits value place) = unbuilt_if_given value
in_simple (start_thread object place) = unbuilt_in_expr true object
in_simple (start_threads objects place) = unbuilt_in_expr true objects
in_simple _ = None

-- of what has patterns; of all else nothing
abbrev pub in_bound : StmtTree → Option Place
in_bound (let_then definitions body place) = or_behind (unbuilt_in_defined true definitions) (unbuilt_in_stmt body)
in_bound (let_be_then bind condition body place) =
    or_behind (unbuilt_in_bind true bind) (or_behind (unbuilt_if_given condition) (unbuilt_in_stmt body))
in_bound (def_then pattern value body place) =
    or_behind (unbuilt_in_pattern true pattern) (or_behind (unbuilt_in_expr true value) (unbuilt_in_stmt body))
in_bound (cases_then subject cases others place) =
    or_behind (unbuilt_in_expr true subject) (or_behind (unbuilt_in_case_stmts cases) (unbuilt_in_maybe_stmt others))
in_bound (for_set pattern set body place) =
    or_behind (unbuilt_in_pattern true pattern) (or_behind (unbuilt_in_expr true set) (unbuilt_in_stmt body))
in_bound (for_sequence pattern items body place) =
    or_behind (unbuilt_in_pattern true pattern) (or_behind (unbuilt_in_expr true items) (unbuilt_in_stmt body))
in_bound (trap_exit pattern handler body place) =
    or_behind (unbuilt_in_pattern true pattern) (or_behind (unbuilt_in_stmt handler) (unbuilt_in_stmt body))
in_bound (trap_exits handlers body place) = or_behind (unbuilt_in_handlers handlers) (unbuilt_in_stmt body)
in_bound _ = None

-- of any other; of these nothing
abbrev pub in_ordered : StmtTree → Option Place
in_ordered (block locals statements place) = or_behind (unbuilt_in_locals locals) (unbuilt_in_stmts statements)
in_ordered (if_then condition body elseifs otherwise place) =
    or_behind (unbuilt_in_expr true condition)
    (or_behind (unbuilt_in_stmt body) (or_behind (unbuilt_in_branch_stmts elseifs) (unbuilt_in_maybe_stmt otherwise)))
in_ordered (while_do condition body place) = or_behind (unbuilt_in_expr true condition) (unbuilt_in_stmt body)
in_ordered (for_numbers name name_place first last by body place) =
    or_behind (unbuilt_in_expr true first) (or_behind (unbuilt_in_expr true last) (or_behind (unbuilt_if_given by) (unbuilt_in_stmt body)))
in_ordered (always_after last body place) = or_behind (unbuilt_in_stmt last) (unbuilt_in_stmt body)
in_ordered (in_parallel statements place) = unbuilt_in_stmts statements
in_ordered _ = None
