-- Statements keep the rules of journals.
use Rattle.std.proofs.Common.{[], Bool, List, None, Option, Some, false, length, true}
use Rattle.vdm_kinds.specs.declared.place.Place.{Place}
use Rattle.vdm_kinds.specs.declared.run_fault.RunFault.TheVariants.{NoThread, TypeFault, Undefined}
use Rattle.vdm_values.specs.declared.slot.Slot.TheVariants.{Unset, Held}
use Rattle.abstract_syntax.specs.Classes.{SpecTree}
use Rattle.abstract_syntax.specs.Values.{ValueTree, nil, no_values, object, one_value, set_of}
use Rattle.abstract_syntax.specs.Expressions.{ExprTree, no_defined, one_defined}
use Rattle.abstract_syntax.specs.Statements.{MaybeStmt, StmtBranches, StmtTree, always_after, assign, assign_together, block, call, cases_then, def_then, errs, exits, for_numbers, for_sequence, for_set, if_then, in_parallel, let_be_then, let_then, no_stmt_branches, one_stmt_branch, returns, skips, start_thread, start_threads, trap_exit, trap_exits, while_do}
use Rattle.run_journal.specs.declared.entry.Entry.{Entry}
use Rattle.vdm_legal.proofs.Sanity.{within-self}
use Rattle.node_meaning.specs.Envs.{Here, Locals}
use Rattle.node_meaning.specs.Tasks.{Code, Declared, exited, next, returned}
use Rattle.stmt_meaning.specs.Blocks.{alternatives}
use Rattle.stmt_meaning.specs.Flows.{return_value, exit_value}
use Rattle.stmt_meaning.specs.Loops.{counts_on, each_of_sequence, each_of_set}
use Rattle.stmt_meaning.specs.Statements.{all_started, branch_taken, branches_of, exit_of, returned_of, started, stmt_plan}
use Rattle.vdm_meaning.proofs.Rules.{IsSafe}
use Rattle.vdm_meaning.proofs.Parts.{Goes, IsAt, at-later, may-fail, safe-evaluated, safe-finish}
use Rattle.vdm_meaning.proofs.Matching.{safe-decided}
use Rattle.vdm_meaning.proofs.Flows.{safe-at_last, safe-called, safe-in_place, safe-sequence}
use Rattle.vdm_meaning.proofs.Targets.{safe-assign, safe-together}
use Rattle.vdm_meaning.proofs.Blocks.{safe-alternatives, safe-block_of, safe-let_be_body, safe-let_body, safe-otherwise_of}
use Rattle.vdm_meaning.proofs.Handlers.{safe-caught_in, safe-trapped}
use Rattle.vdm_meaning.proofs.Loops.{safe-counts_on, safe-each_of_sequence, safe-each_of_set, safe-numbered, safe-while_round}

module _ (spec : SpecTree) (first : List Entry) (here : Here) where
  safe-returned_of : (now : List Entry) (tree : Option ExprTree) (place : Place) (locals : Locals) → IsAt spec first now here locals → IsSafe spec first now (returned_of here tree place locals)
  safe-returned_of now None place locals is_at = safe-finish spec (returned Unset locals) is_at (tt, is_at.may.known)
  safe-returned_of now (Some tree) place locals is_at =
      safe-evaluated spec first now here locals tree place return_value is_at (λ later v after w at_later known.
      safe-finish spec (returned (Held v) after) at_later (known, at_later.may.known))

  safe-exit_of : (now : List Entry) (tree : Option ExprTree) (place : Place) (locals : Locals) → IsAt spec first now here locals → IsSafe spec first now (exit_of here tree place locals)
  safe-exit_of now None place locals is_at = safe-finish spec (exited nil place locals) is_at (tt, is_at.may.known)
  safe-exit_of now (Some tree) place locals is_at =
      safe-evaluated spec first now here locals tree place (exit_value place) is_at (λ later v after w at_later known.
      safe-finish spec (exited v place after) at_later (known, at_later.may.known))

  -- ---- branches

  safe-branch_taken : (now : List Entry) (statement : StmtTree) (others : Locals → Code) (b : Bool) (locals : Locals) → IsAt spec first now here locals → Goes spec first here now others → IsSafe spec first now (branch_taken here statement others b locals)
  safe-branch_taken now statement others true locals is_at goes = safe-in_place spec first here statement is_at
  safe-branch_taken now statement others false locals is_at goes = goes now locals (within-self now) is_at

  safe-branches : (branches : StmtBranches) (now : List Entry) (place : Place) (otherwise : MaybeStmt) (locals : Locals) → IsAt spec first now here locals → IsSafe spec first now (branches_of here place branches otherwise locals)
  safe-branches no_stmt_branches now place otherwise locals is_at = safe-otherwise_of spec first here now otherwise locals is_at
  safe-branches (one_stmt_branch condition statement more) now place otherwise locals is_at =
      safe-decided spec first now here locals condition place (branch_taken here statement (branches_of here place more otherwise)) is_at (λ later b after w at_later any.
      safe-branch_taken later statement (branches_of here place more otherwise) b after at_later (λ end others x at_end. safe-branches more end place otherwise others at_end))

  -- ---- threads

  safe-started : (now : List Entry) (place : Place) (v : ValueTree) (locals : Locals) → IsAt spec first now here locals → IsSafe spec first now (started place v locals)
  safe-started now place (object n class) locals is_at = may-fail spec NoThread place is_at.may
  safe-started now place v locals is_at = may-fail spec TypeFault place is_at.may

  safe-all_started : (now : List Entry) (place : Place) (v : ValueTree) (locals : Locals) → IsAt spec first now here locals → IsSafe spec first now (all_started place v locals)
  safe-all_started now place (set_of no_values) locals is_at = safe-finish spec (next locals) is_at is_at.may.known
  safe-all_started now place (set_of (one_value v vs)) locals is_at = safe-started now place v locals is_at
  safe-all_started now place v locals is_at = may-fail spec TypeFault place is_at.may

  -- ---- all statements

  pub safe-statement : (now : List Entry) (declared : Declared) (locals : Locals) (statement : StmtTree) → IsAt spec first now here locals → IsSafe spec first now (stmt_plan spec here declared locals statement)
  safe-statement now declared locals (block dcls statements place) is_at = safe-block_of spec first here now dcls statements locals is_at
  safe-statement now declared locals (assign target tree place) is_at = safe-assign spec first here place now declared target tree locals is_at
  safe-statement now declared locals (assign_together assignments place) is_at = safe-together spec first here place assignments now None [] locals is_at tt tt
  safe-statement now declared locals (call tree place) is_at = (is_at.may, λ later flow w leaves. safe-called spec first here flow (at-later is_at w leaves.0) leaves.1)
  safe-statement now declared locals (returns tree place) is_at = safe-returned_of now tree place locals is_at
  safe-statement now declared locals (exits tree place) is_at = safe-exit_of now tree place locals is_at
  safe-statement now declared locals (let_then definitions body place) is_at = safe-let_body spec first here now place definitions body locals is_at
  safe-statement now declared locals (let_be_then bind_tree condition body place) is_at = safe-let_be_body spec first here now place bind_tree condition body locals is_at
  safe-statement now declared locals (def_then pattern tree body place) is_at =
      safe-let_body spec first here now place (one_defined pattern None tree no_defined) body locals is_at
  safe-statement now declared locals (if_then condition statement elseifs otherwise place) is_at =
      safe-branches (one_stmt_branch condition statement elseifs) now place otherwise locals is_at
  safe-statement now declared locals (cases_then subject cases others place) is_at =
      safe-evaluated spec first now here locals subject place (alternatives spec here place (length locals) cases others) is_at (λ later v after w at_later known.
      safe-alternatives spec first here cases later place (length locals) others v after at_later known)
  safe-statement now declared locals (while_do condition body place) is_at = safe-while_round spec first here now condition body place locals is_at
  safe-statement now declared locals (for_numbers name name_place from last by body place) is_at =
      safe-numbered spec first here place now locals from (counts_on here name last by body place) is_at (λ later z after at_later.
      safe-counts_on spec first here place name body later last by z after at_later)
  safe-statement now declared locals (for_set pattern set body place) is_at =
      safe-evaluated spec first now here locals set place (each_of_set spec here place pattern body) is_at (λ later v after w at_later known.
      safe-each_of_set spec first here place pattern body later v after at_later known)
  safe-statement now declared locals (for_sequence pattern items body place) is_at =
      safe-evaluated spec first now here locals items place (each_of_sequence spec here place pattern body) is_at (λ later v after w at_later known.
      safe-each_of_sequence spec first here place pattern body later v after at_later known)
  safe-statement now declared locals (trap_exit pattern handler body place) is_at = (
    is_at.may,
    λ later flow w leaves. safe-trapped spec first here place later locals pattern handler (length locals) flow (at-later is_at w leaves.0) leaves.1,
  )
  safe-statement now declared locals (trap_exits handlers body place) is_at = safe-caught_in spec first here place now handlers body locals is_at
  safe-statement now declared locals (always_after last body place) is_at = (
    is_at.may,
    λ later flow w leaves. safe-at_last spec first here later locals (length locals) last flow (at-later is_at w leaves.0) leaves.1,
  )
  safe-statement now declared locals (in_parallel statements place) is_at = safe-sequence spec first here statements now (length locals) locals is_at
  safe-statement now declared locals (start_thread tree place) is_at =
      safe-evaluated spec first now here locals tree place (started place) is_at (λ later v after w at_later known. safe-started later place v after at_later)
  safe-statement now declared locals (start_threads tree place) is_at =
      safe-evaluated spec first now here locals tree place (all_started place) is_at (λ later v after w at_later known. safe-all_started later place v after at_later)
  safe-statement now declared locals (skips place) is_at = safe-finish spec (next locals) is_at is_at.may.known
  safe-statement now declared locals (errs place) is_at = may-fail spec Undefined place is_at.may
