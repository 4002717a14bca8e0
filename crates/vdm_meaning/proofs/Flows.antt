-- What is done with what came of a statement keeps the rules of journals.
use Rattle.std.proofs.Common.{[], List, take, ℕ}
use Rattle.vdm_values.specs.declared.slot.Slot.TheVariants.{Unset, Held}
use Rattle.abstract_syntax.specs.Classes.{SpecTree}
use Rattle.abstract_syntax.specs.Statements.{StmtTree, StmtTrees, no_stmts, one_stmt}
use Rattle.run_journal.specs.declared.entry.Entry.{Entry}
use Rattle.vdm_legal.proofs.Sanity.{IsWithin, within-self}
use Rattle.plans.specs.Plans.{become}
use Rattle.node_meaning.specs.Envs.{Here, Locals, at}
use Rattle.node_meaning.specs.Tasks.{Code, Flow, exited, gave, next, returned, stmt_in}
use Rattle.stmt_meaning.specs.Flows.{called, sequence, stmt_within, unless_ended, unless_ended_at, unless_ended_cut, with_locals}
use Rattle.stmt_meaning.specs.Handlers.{at_last, locals_of, unless_replaced}
use Rattle.vdm_meaning.proofs.Rules.{AreKnown, GivesKnown, IsSafe}
use Rattle.vdm_meaning.proofs.Parts.{Goes, IsAt, at-among, at-cut, at-later, safe-become_task, safe-cut, safe-finish, value-on, held_slot-on}

-- ---- what came of the body, behind the last statement

locals-known : (spec : SpecTree) (now : List Entry) (flow : Flow) → GivesKnown spec now flow → AreKnown spec now (locals_of flow)
locals-known spec now (gave slot locals) known = known.1
locals-known spec now (next locals) known = known
locals-known spec now (returned slot locals) known = known.1
locals-known spec now (exited v from locals) known = known.1

-- it is known behind later entries too, with any known locals
kept-known : (spec : SpecTree) (now later : List Entry) (w : IsWithin spec now later) (flow : Flow) (locals : Locals) → GivesKnown spec now flow → AreKnown spec later locals → GivesKnown spec later (with_locals locals flow)
kept-known spec now later w (gave slot before) locals known others = (held_slot-on now later w slot known.0, others)
kept-known spec now later w (next before) locals known others = others
kept-known spec now later w (returned slot before) locals known others = (held_slot-on now later w slot known.0, others)
kept-known spec now later w (exited v from before) locals known others = (value-on now later w v known.0, others)

-- ---- plans

module _ (spec : SpecTree) (first : List Entry) (here : Here) where
  pub safe-called : {now : List Entry} {locals : Locals} (flow : Flow) → IsAt spec first now here locals → GivesKnown spec now flow → IsSafe spec first now (called flow)
  safe-called (gave (Held v) after) is_at known = safe-finish spec (returned (Held v) after) is_at known
  safe-called (gave Unset after) is_at known = safe-finish spec (next after) is_at known.1
  safe-called (next after) is_at known = safe-finish spec (next after) is_at known
  safe-called (returned slot after) is_at known = safe-finish spec (returned slot after) is_at known
  safe-called (exited v from after) is_at known = safe-finish spec (exited v from after) is_at known

  pub safe-unless_ended : (now : List Entry) (locals : Locals) (others : Locals → Code) (flow : Flow) → IsAt spec first now here locals → GivesKnown spec now flow → Goes spec first here now others → IsSafe spec first now (unless_ended others flow)
  safe-unless_ended now locals others (gave slot after) is_at known goes = safe-finish spec (gave slot after) is_at known
  safe-unless_ended now locals others (next after) is_at known goes = goes now after (within-self now) (at-among is_at after known)
  safe-unless_ended now locals others (returned slot after) is_at known goes = safe-finish spec (returned slot after) is_at known
  safe-unless_ended now locals others (exited v from after) is_at known goes = safe-finish spec (exited v from after) is_at known

  -- where the locals behind the first so many go
  pub safe-unless_ended_cut : (now : List Entry) (locals : Locals) (count : ℕ) (others : Locals → Code) (flow : Flow) → IsAt spec first now here locals → GivesKnown spec now flow → Goes spec first here now others → IsSafe spec first now (unless_ended_cut count others flow)
  safe-unless_ended_cut now locals count others (gave slot after) is_at known goes = safe-cut spec count (gave slot after) is_at known
  safe-unless_ended_cut now locals count others (next after) is_at known goes =
      goes now (take count after) (within-self now) (at-cut count (at-among is_at after known))
  safe-unless_ended_cut now locals count others (returned slot after) is_at known goes = safe-cut spec count (returned slot after) is_at known
  safe-unless_ended_cut now locals count others (exited v from after) is_at known goes = safe-cut spec count (exited v from after) is_at known

  -- ... and where they go only where the body ended
  safe-unless_ended_at : (now : List Entry) (locals : Locals) (count : ℕ) (others : Locals → Code) (flow : Flow) → IsAt spec first now here locals → GivesKnown spec now flow → Goes spec first here now others → IsSafe spec first now (unless_ended_at count others flow)
  safe-unless_ended_at now locals count others (gave slot after) is_at known goes = safe-cut spec count (gave slot after) is_at known
  safe-unless_ended_at now locals count others (next after) is_at known goes = goes now after (within-self now) (at-among is_at after known)
  safe-unless_ended_at now locals count others (returned slot after) is_at known goes = safe-cut spec count (returned slot after) is_at known
  safe-unless_ended_at now locals count others (exited v from after) is_at known goes = safe-cut spec count (exited v from after) is_at known

  -- ---- statements

  pub safe-stmt_within : (now : List Entry) (count : ℕ) (body : StmtTree) (locals : Locals) → IsAt spec first now here locals → IsSafe spec first now (stmt_within here count body locals)
  safe-stmt_within now count body locals is_at = (is_at.may, λ later flow w leaves. safe-cut spec count flow (at-later is_at w leaves.0) leaves.1)

  pub safe-sequence : (statements : StmtTrees) (now : List Entry) (count : ℕ) (locals : Locals) → IsAt spec first now here locals → IsSafe spec first now (sequence here count statements locals)
  safe-sequence no_stmts now count locals is_at = safe-cut spec count (next locals) is_at is_at.may.known
  safe-sequence (one_stmt statement statements) now count locals is_at = (
    is_at.may,
    λ later flow w leaves.
        safe-unless_ended_at later locals count (sequence here count statements) flow (at-later is_at w leaves.0) leaves.1
        (λ end others x at_end. safe-sequence statements end count others at_end),
  )

  pub safe-in_place : {now : List Entry} {locals : Locals} (statement : StmtTree) → IsAt spec first now here locals → IsSafe spec first now (become (stmt_in (at here locals) [] statement))
  safe-in_place {locals = locals} statement is_at = safe-become_task spec (stmt_in (at here locals) [] statement) is_at is_at.may

  -- ---- `always`

  safe-unless_replaced : {now : List Entry} {locals : Locals} (before flow : Flow) → IsAt spec first now here locals → GivesKnown spec now flow → ((after : Locals) → AreKnown spec now after → GivesKnown spec now (with_locals after before)) → IsSafe spec first now (unless_replaced before flow)
  safe-unless_replaced before (gave slot after) is_at known kept = safe-finish spec (gave slot after) is_at known
  safe-unless_replaced before (next after) is_at known kept = safe-finish spec (with_locals after before) is_at (kept after known)
  safe-unless_replaced before (returned slot after) is_at known kept = safe-finish spec (returned slot after) is_at known
  safe-unless_replaced before (exited v from after) is_at known kept = safe-finish spec (exited v from after) is_at known

  pub safe-at_last : (now : List Entry) (locals : Locals) (count : ℕ) (last : StmtTree) (flow : Flow) → IsAt spec first now here locals → GivesKnown spec now flow → IsSafe spec first now (at_last here count last flow)
  safe-at_last now locals count last flow is_at known = (
    (at-cut count (at-among is_at (locals_of flow) (locals-known spec now flow known))).may,
    λ later end w leaves.
        safe-unless_replaced flow end (at-later is_at w leaves.0) leaves.1
        (λ after others. kept-known spec now later w flow after known others),
  )
