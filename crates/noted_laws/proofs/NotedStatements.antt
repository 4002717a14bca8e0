-- Statements ask, in a thread, questions that entries answer.
use Rattle.std.proofs.Common.{[], Option, Some, None, false, length, true}
use Rattle.vdm_kinds.specs.declared.place.Place.{Place}
use Rattle.abstract_syntax.specs.Values.{no_values, object, one_value, set_of}
use Rattle.abstract_syntax.specs.Expressions.{ExprTree, no_defined, one_defined}
use Rattle.abstract_syntax.specs.Statements.{MaybeStmt, StmtBranches, no_stmt_branches, one_stmt_branch, StmtTree, block, assign, assign_together, call, returns, exits, let_then, let_be_then, def_then, if_then, cases_then, while_do, for_numbers, for_set, for_sequence, trap_exit, trap_exits, always_after, in_parallel, start_thread, start_threads, skips, errs}
use Rattle.abstract_syntax.specs.Classes.{SpecTree}
use Rattle.stmt_meaning.specs.Blocks.{alternatives}
use Rattle.stmt_meaning.specs.Flows.{return_value, exit_value}
use Rattle.stmt_meaning.specs.Loops.{on_number, counts_on, each_of_set, each_of_sequence}
use Rattle.stmt_meaning.specs.Statements.{returned_of, exit_of, branch_taken, branches_of, started, all_started, stmt_plan}
use Rattle.stmt_meaning.specs.Targets.{goal_of, target_steps}
use Rattle.node_meaning.specs.Envs.{Locals, Here}
use Rattle.node_meaning.specs.Tasks.{Declared, Code}
use Rattle.noted_laws.proofs.Noting.{Notes, Onward, OnwardWith, notes-decided, notes-evaluated}
use Rattle.noted_laws.proofs.NotedFlows.{notes-called, notes-caught_in, notes-sequence, notes-trapped, notes-unless_replaced}
use Rattle.noted_laws.proofs.NotedLoops.{notes-counts_on, notes-each_of_sequence, notes-each_of_set, notes-on_number}
use Rattle.noted_laws.proofs.NotedTargets.{notes-assigned, notes-together}
use Rattle.noted_laws.proofs.NotedBlocks.{notes-alternatives, notes-block_of, notes-let_be_body, notes-let_body, notes-otherwise_of}

module _ (spec : SpecTree) (here : Here) where
  notes-returned_of : (tree : Option ExprTree) (place : Place) → Onward (returned_of here tree place)
  notes-returned_of None place locals = tt
  notes-returned_of (Some tree) place locals = notes-evaluated here locals tree place return_value (λ v after. tt)

  notes-exit_of : (tree : Option ExprTree) (place : Place) → Onward (exit_of here tree place)
  notes-exit_of None place locals = tt
  notes-exit_of (Some tree) place locals = notes-evaluated here locals tree place (exit_value place) (λ v after. tt)

  -- ---- branches

  notes-branch_taken : (statement : StmtTree) (others : Locals → Code) → Onward others → OnwardWith (branch_taken here statement others)
  notes-branch_taken statement others h true locals = tt
  notes-branch_taken statement others h false locals = h locals

  notes-branches : (place : Place) (branches : StmtBranches) (otherwise : MaybeStmt) → Onward (branches_of here place branches otherwise)
  notes-branches place no_stmt_branches otherwise locals = notes-otherwise_of spec here otherwise locals
  notes-branches place (one_stmt_branch condition statement more) otherwise locals =
      notes-decided here locals condition place (branch_taken here statement (branches_of here place more otherwise))
      (notes-branch_taken statement (branches_of here place more otherwise) (notes-branches place more otherwise))

  -- ---- threads

  notes-started : (place : Place) → OnwardWith (started place)
  notes-started place (object n class) locals = tt
  notes-started place v locals = tt

  notes-all_started : (place : Place) → OnwardWith (all_started place)
  notes-all_started place (set_of no_values) locals = tt
  notes-all_started place (set_of (one_value v vs)) locals = notes-started place v locals
  notes-all_started place v locals = tt

  -- ---- all statements

  pub notes-statement : (declared : Declared) (locals : Locals) (statement : StmtTree) → Notes (stmt_plan spec here declared locals statement)
  notes-statement declared locals (block dcls statements place) = notes-block_of spec here dcls statements locals
  notes-statement declared locals (assign target tree place) =
      notes-assigned spec here place (goal_of spec here declared target) (target_steps target) tree locals
  notes-statement declared locals (assign_together assignments place) = notes-together spec here place assignments None [] locals
  notes-statement declared locals (call tree place) = notes-called
  notes-statement declared locals (returns tree place) = notes-returned_of tree place locals
  notes-statement declared locals (exits tree place) = notes-exit_of tree place locals
  notes-statement declared locals (let_then definitions body place) = notes-let_body spec here place definitions body locals
  notes-statement declared locals (let_be_then bind_tree condition body place) = notes-let_be_body spec here place bind_tree condition body locals
  notes-statement declared locals (def_then pattern tree body place) = notes-let_body spec here place (one_defined pattern None tree no_defined) body locals
  notes-statement declared locals (if_then condition statement elseifs otherwise place) =
      notes-branches place (one_stmt_branch condition statement elseifs) otherwise locals
  notes-statement declared locals (cases_then subject cases others place) =
      notes-evaluated here locals subject place (alternatives spec here place (length locals) cases others)
      (notes-alternatives spec here place (length locals) cases others)
  notes-statement declared locals (while_do condition body place) = tt
  notes-statement declared locals (for_numbers name name_place from last by body place) =
      notes-evaluated here locals from place (on_number place (counts_on here name last by body place))
      (notes-on_number here place (counts_on here name last by body place) (notes-counts_on here name last by body place))
  notes-statement declared locals (for_set pattern set body place) =
      notes-evaluated here locals set place (each_of_set spec here place pattern body) (notes-each_of_set spec here place pattern body)
  notes-statement declared locals (for_sequence pattern items body place) =
      notes-evaluated here locals items place (each_of_sequence spec here place pattern body) (notes-each_of_sequence spec here place pattern body)
  notes-statement declared locals (trap_exit pattern handler body place) = notes-trapped spec here place pattern handler (length locals)
  notes-statement declared locals (trap_exits handlers body place) = notes-caught_in spec here place handlers body locals
  notes-statement declared locals (always_after last body place) = notes-unless_replaced
  notes-statement declared locals (in_parallel statements place) = notes-sequence here (length locals) statements locals
  notes-statement declared locals (start_thread tree place) = notes-evaluated here locals tree place (started place) (notes-started place)
  notes-statement declared locals (start_threads tree place) = notes-evaluated here locals tree place (all_started place) (notes-all_started place)
  notes-statement declared locals (skips place) = tt
  notes-statement declared locals (errs place) = tt
