-- Statements among local variables, and among what is bound for them, keep the rules of journals.
use Rattle.std.proofs.Common.{◌++◌, ◌∷◌, [], List, None, Option, Some, length, ℕ}
use Rattle.vdm_kinds.specs.declared.place.Place.{Place}
use Rattle.vdm_values.specs.declared.slot.Slot.TheVariants.{Held, Unset}
use Rattle.abstract_syntax.specs.Classes.{SpecTree}
use Rattle.abstract_syntax.specs.Values.{ValueTree}
use Rattle.abstract_syntax.specs.Expressions.{BindTree, DefinedTrees, ExprTree, PatternTrees, no_binds, no_patterns, one_bind, one_pattern}
use Rattle.abstract_syntax.specs.Statements.{DclTree, LocalTree, MaybeStmt, StmtCases, StmtTree, StmtTrees, given_stmt, no_stmt, no_stmt_cases, one_stmt_case}
use Rattle.run_journal.specs.declared.entry.Entry.{Entry}
use Rattle.vdm_legal.proofs.Known.{IsKnown}
use Rattle.vdm_legal.proofs.Sanity.{within-self, within-then}
use Rattle.node_meaning.specs.Envs.{Here, Locals, no_nest}
use Rattle.node_meaning.specs.Choosing.{choosing, finds}
use Rattle.node_meaning.specs.Fitting.{typed}
use Rattle.node_meaning.specs.Tasks.{Code, next}
use Rattle.stmt_meaning.specs.Blocks.{alternatives, block_body, block_of, dcls_given, let_be_body, let_body, local_given, local_value, locals_given, maybe_condition, one_met, otherwise_of, types_declared}
use Rattle.stmt_meaning.specs.Flows.{sequence, stmt_within, unless_ended}
use Rattle.vdm_meaning.proofs.Rules.{IsSafe}
use Rattle.vdm_meaning.proofs.Parts.{Goes, IsAt, at-later, at-more, at-start, safe-bind, safe-evaluated, safe-finish, value-on}
use Rattle.vdm_meaning.proofs.Around.{safe-among}
use Rattle.vdm_meaning.proofs.Matching.{safe-meets}
use Rattle.vdm_meaning.proofs.Fitting.{safe-typed}
use Rattle.vdm_meaning.proofs.Choosing.{safe-choosing}
use Rattle.vdm_meaning.proofs.Chosen.{safe-definitions}
use Rattle.vdm_meaning.proofs.Flows.{safe-in_place, safe-sequence, safe-stmt_within, safe-unless_ended}

module _ (spec : SpecTree) (first : List Entry) (here : Here) where
  -- ---- `dcl`

  safe-local_given : (now : List Entry) (place : Place) (local : LocalTree) (initial : Option ExprTree) (further : Locals → Code) (locals : Locals) → IsAt spec first now here locals → Goes spec first here now further → IsSafe spec first now (local_given spec here place local initial further locals)
  safe-local_given now place local None further locals is_at goes = goes now (locals ++ (local.name, Unset) ∷ []) (within-self now) (at-more is_at local.name Unset tt)
  safe-local_given now place local (Some tree) further locals is_at goes =
      let stored = local_value local.name further in
      safe-evaluated spec first now here locals tree place (typed spec no_nest here.scope local.declared place stored) is_at (λ later v after w at_later known.
      safe-typed spec first here later after no_nest here.scope local.declared place stored v at_later known (λ end fitting_v others x at_end also.
      goes end (others ++ (local.name, Held fitting_v) ∷ []) (within-then now later end w x) (at-more at_end local.name (Held fitting_v) also)))

  safe-locals_given : (dcl_locals : List LocalTree) (now : List Entry) (place : Place) (further : Locals → Code) (locals : Locals) → IsAt spec first now here locals → Goes spec first here now further → IsSafe spec first now (locals_given spec here place dcl_locals further locals)
  safe-locals_given [] now place further locals is_at goes = goes now locals (within-self now) is_at
  safe-locals_given (local ∷ others) now place further locals is_at goes =
      safe-local_given now place local local.initial (locals_given spec here place others further) locals is_at (λ later after w at_later.
      safe-locals_given others later place further after at_later (λ end inner x. goes end inner (within-then now later end w x)))

  safe-dcls_given : (dcls : List DclTree) (now : List Entry) (further : Locals → Code) (locals : Locals) → IsAt spec first now here locals → Goes spec first here now further → IsSafe spec first now (dcls_given spec here dcls further locals)
  safe-dcls_given [] now further locals is_at goes = goes now locals (within-self now) is_at
  safe-dcls_given (dcl ∷ dcls) now further locals is_at goes =
      safe-locals_given dcl.locals now dcl.place (dcls_given spec here dcls further) locals is_at (λ later after w at_later.
      safe-dcls_given dcls later further after at_later (λ end inner x. goes end inner (within-then now later end w x)))

  pub safe-block_of : (now : List Entry) (dcls : List DclTree) (statements : StmtTrees) (locals : Locals) → IsAt spec first now here locals → IsSafe spec first now (block_of spec here dcls statements locals)
  safe-block_of now dcls statements locals is_at =
      safe-dcls_given dcls now (block_body here dcls statements (length locals)) locals is_at (λ later after w at_later.
      safe-among spec first (types_declared dcls) (sequence here (length locals) statements after) later
      (safe-sequence spec first here statements later (length locals) after at_later))

  -- ---- `let`, `def` and `let be`

  pub safe-let_body : (now : List Entry) (place : Place) (trees : DefinedTrees) (body : StmtTree) (locals : Locals) → IsAt spec first now here locals → IsSafe spec first now (let_body spec here place trees body locals)
  safe-let_body now place trees body locals is_at =
      safe-definitions spec first here place trees now (stmt_within here (length locals) body) locals is_at (λ later after w at_later.
      safe-stmt_within spec first here later (length locals) body after at_later)

  pub safe-let_be_body : (now : List Entry) (place : Place) (bind_tree : BindTree) (condition : Option ExprTree) (body : StmtTree) (locals : Locals) → IsAt spec first now here locals → IsSafe spec first now (let_be_body spec here place bind_tree condition body locals)
  safe-let_be_body now place bind_tree condition body locals is_at =
      let within = stmt_within here (length locals) body in
      safe-bind spec now first (unless_ended within)
      (λ later flow w leaves.
      safe-unless_ended spec first here later locals within flow (at-later is_at w leaves.0) leaves.1 (λ end after x at_end.
      safe-stmt_within spec first here end (length locals) body after at_end))
      (choosing spec here place (one_bind bind_tree no_binds) (finds (maybe_condition condition)) locals) now
      (safe-choosing spec now here place now (one_bind bind_tree no_binds) (finds (maybe_condition condition)) locals (at-start is_at.may))

  -- ---- `cases`

  pub safe-otherwise_of : (now : List Entry) (otherwise : MaybeStmt) (locals : Locals) → IsAt spec first now here locals → IsSafe spec first now (otherwise_of here otherwise locals)
  safe-otherwise_of now no_stmt locals is_at = safe-finish spec (next locals) is_at is_at.may.known
  safe-otherwise_of now (given_stmt statement) locals is_at = safe-in_place spec first here statement is_at

  safe-one_met : (patterns : PatternTrees) (now : List Entry) (place : Place) (v : ValueTree) (matched more : Locals → Code) (locals : Locals) → IsAt spec first now here locals → IsKnown spec now v → Goes spec first here now matched → Goes spec first here now more → IsSafe spec first now (one_met spec here place v patterns matched more locals)
  safe-one_met no_patterns now place v matched more locals is_at known goes otherwise = otherwise now locals (within-self now) is_at
  safe-one_met (one_pattern pattern patterns) now place v matched more locals is_at known goes otherwise =
      safe-meets spec first now here place pattern matched (one_met spec here place v patterns matched more) v locals is_at known goes
      (λ later after w at_later.
      safe-one_met patterns later place v matched more after at_later (value-on now later w v known)
      (λ end inner x. goes end inner (within-then now later end w x)) (λ end inner x. otherwise end inner (within-then now later end w x)))

  pub safe-alternatives : (cases : StmtCases) (now : List Entry) (place : Place) (count : ℕ) (others : MaybeStmt) (v : ValueTree) (locals : Locals) → IsAt spec first now here locals → IsKnown spec now v → IsSafe spec first now (alternatives spec here place count cases others v locals)
  safe-alternatives no_stmt_cases now place count others v locals is_at known = safe-otherwise_of now others locals is_at
  safe-alternatives (one_stmt_case patterns body more) now place count others v locals is_at known =
      safe-one_met patterns now place v (stmt_within here count body) (alternatives spec here place count more others v) locals is_at known
      (λ later after w at_later. safe-stmt_within spec first here later count body after at_later)
      (λ later after w at_later. safe-alternatives more later place count others v after at_later (value-on now later w v known))
