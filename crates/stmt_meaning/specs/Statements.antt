-- What each statement does, one line a kind.
use Rattle.std.specs.Prelude.{Bool, true, false, [], length, Option, Some, None}
use Rattle.vdm_kinds.specs.declared.place.Place.{Place}
use Rattle.vdm_kinds.specs.declared.run_fault.RunFault.TheVariants.{NoThread, TypeFault, Undefined}
use Rattle.vdm_values.specs.declared.slot.Slot.TheVariants.{Unset}
use Rattle.abstract_syntax.specs.Values.{ValueTree, nil, object, set_of, no_values, one_value}
use Rattle.abstract_syntax.specs.Expressions.{ExprTree, no_defined, one_defined}
use Rattle.abstract_syntax.specs.Statements.{
  StmtTree,
  block,
  assign,
  assign_together,
  call,
  returns,
  exits,
  let_then,
  let_be_then,
  def_then,
  if_then,
  cases_then,
  while_do,
  for_numbers,
  for_set,
  for_sequence,
  trap_exit,
  trap_exits,
  always_after,
  in_parallel,
  start_thread,
  start_threads,
  skips,
  errs,
  MaybeStmt,
  StmtBranches,
  no_stmt_branches,
  one_stmt_branch,
}
use Rattle.abstract_syntax.specs.Classes.{SpecTree}
use Rattle.plans.specs.Plans.{finish, part, become}
use Rattle.node_meaning.specs.Envs.{Locals, Here, at}
use Rattle.node_meaning.specs.Matching.{decided}
use Rattle.node_meaning.specs.Tasks.{Declared, call_in, stmt_in, next, returned, Code, fault, evaluated}
use Rattle.stmt_meaning.specs.Blocks.{block_of, let_body, let_be_body, otherwise_of, alternatives}
use Rattle.stmt_meaning.specs.Flows.{sequence, called, return_value, exit_value}
use Rattle.stmt_meaning.specs.Handlers.{at_last, trapped, caught_in}
use Rattle.stmt_meaning.specs.Loops.{while_round, on_number, counts_on, each_of_set, each_of_sequence}
use Rattle.stmt_meaning.specs.Targets.{goal_of, target_steps, assigned, together}

abbrev pub returned_of : Here → Option ExprTree → Place → Locals → Code
returned_of here None place locals = finish (returned Unset locals)
returned_of here (Some tree) place locals = evaluated here locals tree place return_value

-- an exit without a value exits with `nil`
abbrev pub exit_of : Here → Option ExprTree → Place → Locals → Code
exit_of here None place locals = exit_value place nil locals
exit_of here (Some tree) place locals = evaluated here locals tree place (exit_value place)

-- ---- branches

abbrev pub branch_taken : Here → StmtTree → (Locals → Code) → Bool → Locals → Code
branch_taken here statement others true locals = become (stmt_in (at here locals) [] statement)
branch_taken here statement others false locals = others locals

-- the statement of the first branch whose condition is true
abbrev pub branches_of : Here → Place → StmtBranches → MaybeStmt → Locals → Code
branches_of here place no_stmt_branches otherwise locals = otherwise_of here otherwise locals
branches_of here place (one_stmt_branch condition statement more) otherwise locals =
    decided here locals condition place (branch_taken here statement (branches_of here place more otherwise))

-- ---- threads

-- so far no class has a thread
abbrev pub started : Place → ValueTree → Locals → Code
started place (object n class) locals = fault NoThread place
started place v locals = fault TypeFault place

abbrev pub all_started : Place → ValueTree → Locals → Code
all_started place (set_of no_values) locals = finish (next locals)
all_started place (set_of (one_value v vs)) locals = started place v locals
all_started place v locals = fault TypeFault place

-- ---- all statements

-- among these local variables
abbrev pub stmt_plan : SpecTree → Here → Declared → Locals → StmtTree → Code
stmt_plan spec here declared locals (block dcls statements place) = block_of spec here dcls statements locals
stmt_plan spec here declared locals (assign target tree place) =
    assigned spec here place (goal_of spec here declared target) (target_steps target) tree locals
stmt_plan spec here declared locals (assign_together assignments place) = together spec here place assignments None [] locals
stmt_plan spec here declared locals (call tree place) = part (call_in (at here locals) tree) called
stmt_plan spec here declared locals (returns tree place) = returned_of here tree place locals
stmt_plan spec here declared locals (exits tree place) = exit_of here tree place locals
stmt_plan spec here declared locals (let_then definitions body place) = let_body spec here place definitions body locals
stmt_plan spec here declared locals (let_be_then bind condition body place) = let_be_body spec here place bind condition body locals
stmt_plan spec here declared locals (def_then pattern tree body place) =
    let_body spec here place (one_defined pattern None tree no_defined) body locals
stmt_plan spec here declared locals (if_then condition statement elseifs otherwise place) =
    branches_of here place (one_stmt_branch condition statement elseifs) otherwise locals
stmt_plan spec here declared locals (cases_then subject cases others place) =
    evaluated here locals subject place (alternatives spec here place (length locals) cases others)
stmt_plan spec here declared locals (while_do condition body place) = while_round here condition body place locals
stmt_plan spec here declared locals (for_numbers name name_place first last by body place) =
    evaluated here locals first place (on_number place (counts_on here name last by body place))
stmt_plan spec here declared locals (for_set pattern set body place) = evaluated here locals set place (each_of_set spec here place pattern body)
stmt_plan spec here declared locals (for_sequence pattern items body place) =
    evaluated here locals items place (each_of_sequence spec here place pattern body)
stmt_plan spec here declared locals (trap_exit pattern handler body place) =
    part (stmt_in (at here locals) [] body) (trapped spec here place pattern handler (length locals))
stmt_plan spec here declared locals (trap_exits handlers body place) = caught_in spec here place handlers body locals
stmt_plan spec here declared locals (always_after last body place) =
    part (stmt_in (at here locals) [] body) (at_last here (length locals) last)
stmt_plan spec here declared locals (in_parallel statements place) = sequence here (length locals) statements locals
stmt_plan spec here declared locals (start_thread tree place) = evaluated here locals tree place (started place)
stmt_plan spec here declared locals (start_threads tree place) = evaluated here locals tree place (all_started place)
stmt_plan spec here declared locals (skips place) = finish (next locals)
stmt_plan spec here declared locals (errs place) = fault Undefined place
