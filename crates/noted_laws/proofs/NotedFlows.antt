-- What is done behind a statement, and handlers of exits: a thread asks for it by questions that entries answer.
use Rattle.std.proofs.Common.{length, take, ℕ}
use Rattle.vdm_kinds.specs.declared.place.Place.{Place}
use Rattle.vdm_values.specs.declared.slot.Slot.TheVariants.{Unset, Held as Holds}
use Rattle.abstract_syntax.specs.Values.{ValueTree}
use Rattle.abstract_syntax.specs.Expressions.{PatternTree}
use Rattle.abstract_syntax.specs.Statements.{StmtTree, StmtTrees, no_stmts, one_stmt, HandlerTrees, no_handlers, one_handler}
use Rattle.abstract_syntax.specs.Classes.{SpecTree}
use Rattle.stmt_meaning.specs.Flows.{called, unless_ended, unless_ended_at, unless_ended_cut, stmt_within, sequence}
use Rattle.stmt_meaning.specs.Handlers.{unless_replaced, exit_on, trapped, handling, handled_by, caught, caught_in}
use Rattle.node_meaning.specs.Envs.{Locals, Here}
use Rattle.node_meaning.specs.Tasks.{Flow, gave, next, returned, exited, Code}
use Rattle.noted_laws.proofs.Noting.{Notes, Onward, notes-cut_to, notes-meets}

pub notes-called : (flow : Flow) → Notes (called flow)
notes-called (gave (Holds v) locals) = tt
notes-called (gave Unset locals) = tt
notes-called (next locals) = tt
notes-called (returned slot locals) = tt
notes-called (exited v from locals) = tt

module _ (others : Locals → Code) (h : Onward others) where
  pub notes-unless_ended : (flow : Flow) → Notes (unless_ended others flow)
  notes-unless_ended (gave slot locals) = tt
  notes-unless_ended (next locals) = h locals
  notes-unless_ended (returned slot locals) = tt
  notes-unless_ended (exited v from locals) = tt

  pub notes-unless_ended_cut : (count : ℕ) (flow : Flow) → Notes (unless_ended_cut count others flow)
  notes-unless_ended_cut count (gave slot locals) = tt
  notes-unless_ended_cut count (next locals) = h (take count locals)
  notes-unless_ended_cut count (returned slot locals) = tt
  notes-unless_ended_cut count (exited v from locals) = tt

  notes-unless_ended_at : (count : ℕ) (flow : Flow) → Notes (unless_ended_at count others flow)
  notes-unless_ended_at count (gave slot locals) = tt
  notes-unless_ended_at count (next locals) = h locals
  notes-unless_ended_at count (returned slot locals) = tt
  notes-unless_ended_at count (exited v from locals) = tt

module _ (here : Here) where
  pub notes-stmt_within : (count : ℕ) (body : StmtTree) → Onward (stmt_within here count body)
  notes-stmt_within count body locals = notes-cut_to count

  pub notes-sequence : (count : ℕ) (statements : StmtTrees) → Onward (sequence here count statements)
  notes-sequence count no_stmts locals = tt
  notes-sequence count (one_stmt statement statements) locals =
      notes-unless_ended_at (sequence here count statements) (notes-sequence count statements) count

-- ---- `always`, `trap` and `tixe`

pub notes-unless_replaced : (before flow : Flow) → Notes (unless_replaced before flow)
notes-unless_replaced before (gave slot locals) = tt
notes-unless_replaced before (next locals) = tt
notes-unless_replaced before (returned slot locals) = tt
notes-unless_replaced before (exited v from locals) = tt

module _ (spec : SpecTree) (here : Here) (place : Place) where
  pub notes-trapped : (pattern : PatternTree) (handler : StmtTree) (count : ℕ) (flow : Flow) → Notes (trapped spec here place pattern handler count flow)
  notes-trapped pattern handler count (gave slot locals) = tt
  notes-trapped pattern handler count (next locals) = tt
  notes-trapped pattern handler count (returned slot locals) = tt
  notes-trapped pattern handler count (exited v from locals) =
      notes-meets spec here place pattern (stmt_within here count handler) (exit_on v from) (notes-stmt_within here count handler) (λ after. tt) v (take count locals)

  notes-handled_by : (all : HandlerTrees) (count : ℕ) (handlers : HandlerTrees) (v : ValueTree) (from : Place) → Onward (handled_by spec here place all count handlers v from)
  notes-handled_by all count no_handlers v from locals = tt
  notes-handled_by all count (one_handler pattern body others) v from locals =
      notes-meets spec here place pattern (handling here place all count body) (handled_by spec here place all count others v from)
      (λ after. tt) (notes-handled_by all count others v from) v locals

  pub notes-caught : (all : HandlerTrees) (count : ℕ) (flow : Flow) → Notes (caught spec here place all count flow)
  notes-caught all count (gave slot locals) = tt
  notes-caught all count (next locals) = tt
  notes-caught all count (returned slot locals) = tt
  notes-caught all count (exited v from locals) = notes-handled_by all count all v from (take count locals)

  pub notes-caught_in : (all : HandlerTrees) (body : StmtTree) → Onward (caught_in spec here place all body)
  notes-caught_in all body locals = notes-caught all (length locals)
