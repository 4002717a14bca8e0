-- Handlers of exits keep the rules of journals, each time an exit is handled.
use Rattle.std.proofs.Common.{[], List, length, take, ℕ}
use Rattle.vdm_kinds.specs.declared.place.Place.{Place}
use Rattle.abstract_syntax.specs.Classes.{SpecTree}
use Rattle.abstract_syntax.specs.Values.{ValueTree}
use Rattle.abstract_syntax.specs.Expressions.{PatternTree}
use Rattle.abstract_syntax.specs.Statements.{HandlerTrees, StmtTree, no_handlers, one_handler}
use Rattle.run_journal.specs.declared.entry.Entry.{Entry}
use Rattle.vdm_legal.proofs.Known.{IsKnown}
use Rattle.node_meaning.specs.Envs.{Here, Locals, at}
use Rattle.node_meaning.specs.Tasks.{Flow, exited, gave, handles, next, returned, round_in}
use Rattle.stmt_meaning.specs.Flows.{stmt_within}
use Rattle.stmt_meaning.specs.Handlers.{caught, caught_in, exit_on, handled_by, handling, trapped}
use Rattle.vdm_meaning.proofs.Rules.{GivesKnown, IsSafe}
use Rattle.vdm_meaning.proofs.Parts.{IsAt, at-among, at-cut, at-later, safe-become_task, safe-cut, safe-finish, value-on}
use Rattle.vdm_meaning.proofs.Matching.{safe-meets}
use Rattle.vdm_meaning.proofs.Flows.{safe-stmt_within}

module _ (spec : SpecTree) (first : List Entry) (here : Here) (place : Place) where
  safe-exit_on : (now : List Entry) (v : ValueTree) (from : Place) (locals : Locals) → IsAt spec first now here locals → IsKnown spec now v → IsSafe spec first now (exit_on v from locals)
  safe-exit_on now v from locals is_at known = safe-finish spec (exited v from locals) is_at (known, is_at.may.known)

  pub safe-trapped : (now : List Entry) (locals : Locals) (pattern : PatternTree) (handler : StmtTree) (count : ℕ) (flow : Flow) → IsAt spec first now here locals → GivesKnown spec now flow → IsSafe spec first now (trapped spec here place pattern handler count flow)
  safe-trapped now locals pattern handler count (gave slot after) is_at known = safe-finish spec (gave slot after) is_at known
  safe-trapped now locals pattern handler count (next after) is_at known = safe-finish spec (next after) is_at known
  safe-trapped now locals pattern handler count (returned slot after) is_at known = safe-finish spec (returned slot after) is_at known
  safe-trapped now locals pattern handler count (exited v from after) is_at known =
      safe-meets spec first now here place pattern (stmt_within here count handler) (exit_on v from) v (take count after) (at-cut count (at-among is_at after known.1)) known.0
      (λ later inner w at_later. safe-stmt_within spec first here later count handler inner at_later)
      (λ later inner w at_later. safe-exit_on later v from inner at_later (value-on now later w v known.0))

  safe-handled_by : (handlers : HandlerTrees) (now : List Entry) (all : HandlerTrees) (count : ℕ) (v : ValueTree) (from : Place) (locals : Locals) → IsAt spec first now here locals → IsKnown spec now v → IsSafe spec first now (handled_by spec here place all count handlers v from locals)
  safe-handled_by no_handlers now all count v from locals is_at known = safe-exit_on now v from locals is_at known
  safe-handled_by (one_handler pattern body others) now all count v from locals is_at known =
      safe-meets spec first now here place pattern (handling here place all count body) (handled_by spec here place all count others v from) v locals is_at known
      (λ later inner w at_later. safe-become_task spec (round_in (at here inner) [] (handles all count body place)) at_later at_later.may)
      (λ later inner w at_later. safe-handled_by others later all count v from inner at_later (value-on now later w v known))

  pub safe-caught : (now : List Entry) (locals : Locals) (all : HandlerTrees) (count : ℕ) (flow : Flow) → IsAt spec first now here locals → GivesKnown spec now flow → IsSafe spec first now (caught spec here place all count flow)
  safe-caught now locals all count (gave slot after) is_at known = safe-cut spec count (gave slot after) is_at known
  safe-caught now locals all count (next after) is_at known = safe-cut spec count (next after) is_at known
  safe-caught now locals all count (returned slot after) is_at known = safe-cut spec count (returned slot after) is_at known
  safe-caught now locals all count (exited v from after) is_at known =
      safe-handled_by all now all count v from (take count after) (at-cut count (at-among is_at after known.1)) known.0

  pub safe-caught_in : (now : List Entry) (all : HandlerTrees) (body : StmtTree) (locals : Locals) → IsAt spec first now here locals → IsSafe spec first now (caught_in spec here place all body locals)
  safe-caught_in now all body locals is_at = (
    is_at.may,
    λ later flow w leaves. safe-caught later locals all (length locals) flow (at-later is_at w leaves.0) leaves.1,
  )
