-- Statements among local variables, and among what is bound for them: a thread asks for them by questions that entries answer.
use Rattle.std.proofs.Common.{◌∷◌, ◌++◌, [], Option, Some, None, List, length, ℕ}
use Rattle.vdm_kinds.specs.declared.place.Place.{Place}
use Rattle.vdm_values.specs.declared.slot.Slot.TheVariants.{Unset, Held as Holds}
use Rattle.abstract_syntax.specs.Values.{ValueTree}
use Rattle.abstract_syntax.specs.Expressions.{ExprTree, BindTree, no_binds, one_bind, DefinedTrees, PatternTrees, no_patterns, one_pattern}
use Rattle.abstract_syntax.specs.Statements.{LocalTree, DclTree, StmtTree, StmtTrees, MaybeStmt, no_stmt, given_stmt, StmtCases, no_stmt_cases, one_stmt_case}
use Rattle.abstract_syntax.specs.Classes.{SpecTree}
use Rattle.stmt_meaning.specs.Blocks.{local_value, local_given, locals_given, dcls_given, types_declared, block_body, block_of, let_body, maybe_condition, let_be_body, otherwise_of, one_met, alternatives}
use Rattle.stmt_meaning.specs.Flows.{sequence, stmt_within, unless_ended}
use Rattle.node_meaning.specs.Choosing.{choosing, finds}
use Rattle.node_meaning.specs.Envs.{Locals, no_nest, Here}
use Rattle.node_meaning.specs.Fitting.{typed}
use Rattle.node_meaning.specs.Tasks.{Code}
use Rattle.noted_laws.proofs.OnlyAsked.{bind-asks}
use Rattle.noted_laws.proofs.Noting.{IsNoted, Onward, OnwardWith, notes-among, notes-evaluated, notes-meets, notes-typed}
use Rattle.noted_laws.proofs.NotedChoices.{notes-choosing}
use Rattle.noted_laws.proofs.NotedFlows.{notes-sequence, notes-stmt_within, notes-unless_ended}
use Rattle.noted_laws.proofs.NotedNodes.{notes-definitions}

module _ (spec : SpecTree) (here : Here) where
  -- ---- `dcl`

  notes-local_given : (place : Place) (local : LocalTree) (initial : Option ExprTree) (further : Locals → Code) → Onward further → Onward (local_given spec here place local initial further)
  notes-local_given place local None further h locals = h (locals ++ (local.name, Unset) ∷ [])
  notes-local_given place local (Some tree) further h locals =
      let bound = local_value local.name further in
      notes-evaluated here locals tree place (typed spec no_nest here.scope local.declared place bound)
      (notes-typed spec no_nest here.scope local.declared place bound (λ v after. h (after ++ (local.name, Holds v) ∷ [])))

  notes-locals_given : (place : Place) (dcl_locals : List LocalTree) (further : Locals → Code) → Onward further → Onward (locals_given spec here place dcl_locals further)
  notes-locals_given place [] further h = h
  notes-locals_given place (local ∷ others) further h =
      notes-local_given place local local.initial (locals_given spec here place others further) (notes-locals_given place others further h)

  notes-dcls_given : (dcls : List DclTree) (further : Locals → Code) → Onward further → Onward (dcls_given spec here dcls further)
  notes-dcls_given [] further h = h
  notes-dcls_given (dcl ∷ dcls) further h = notes-locals_given dcl.place dcl.locals (dcls_given spec here dcls further) (notes-dcls_given dcls further h)

  pub notes-block_of : (dcls : List DclTree) (statements : StmtTrees) → Onward (block_of spec here dcls statements)
  notes-block_of dcls statements locals =
      notes-dcls_given dcls (block_body here dcls statements (length locals)) (λ after.
      notes-among (types_declared dcls) (sequence here (length locals) statements after) (notes-sequence here (length locals) statements after)) locals

  -- ---- `let`, `def` and `let be`

  pub notes-let_body : (place : Place) (trees : DefinedTrees) (body : StmtTree) → Onward (let_body spec here place trees body)
  notes-let_body place trees body locals =
      notes-definitions spec here place trees (stmt_within here (length locals) body) (notes-stmt_within here (length locals) body) locals

  pub notes-let_be_body : (place : Place) (bind_tree : BindTree) (condition : Option ExprTree) (body : StmtTree) → Onward (let_be_body spec here place bind_tree condition body)
  notes-let_be_body place bind_tree condition body locals =
      let within = stmt_within here (length locals) body in
      bind-asks IsNoted (choosing spec here place (one_bind bind_tree no_binds) (finds (maybe_condition condition)) locals) (unless_ended within)
      (notes-choosing here place spec (one_bind bind_tree no_binds) (finds (maybe_condition condition)) locals)
      (notes-unless_ended within (notes-stmt_within here (length locals) body))

  -- ---- `cases`

  pub notes-otherwise_of : (otherwise : MaybeStmt) → Onward (otherwise_of here otherwise)
  notes-otherwise_of no_stmt locals = tt
  notes-otherwise_of (given_stmt statement) locals = tt

  notes-one_met : (place : Place) (v : ValueTree) (patterns : PatternTrees) (matched more : Locals → Code) → Onward matched → Onward more → Onward (one_met spec here place v patterns matched more)
  notes-one_met place v no_patterns matched more h k = k
  notes-one_met place v (one_pattern pattern patterns) matched more h k =
      notes-meets spec here place pattern matched (one_met spec here place v patterns matched more) h (notes-one_met place v patterns matched more h k) v

  pub notes-alternatives : (place : Place) (count : ℕ) (cases : StmtCases) (others : MaybeStmt) → OnwardWith (alternatives spec here place count cases others)
  notes-alternatives place count no_stmt_cases others v = notes-otherwise_of others
  notes-alternatives place count (one_stmt_case patterns body more) others v =
      notes-one_met place v patterns (stmt_within here count body) (alternatives spec here place count more others v)
      (notes-stmt_within here count body) (notes-alternatives place count more others v)
