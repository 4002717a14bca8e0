-- What is done behind a statement, by what came of it.
use Rattle.std.specs.Prelude.{ℕ, [], take}
use Rattle.vdm_kinds.specs.declared.place.Place.{Place}
use Rattle.vdm_values.specs.declared.slot.Slot.TheVariants.{Unset, Held}
use Rattle.abstract_syntax.specs.Values.{ValueTree}
use Rattle.abstract_syntax.specs.Statements.{StmtTree, StmtTrees, no_stmts, one_stmt}
use Rattle.plans.specs.Plans.{finish, part}
use Rattle.node_meaning.specs.Envs.{Locals, Here, at}
use Rattle.node_meaning.specs.Tasks.{stmt_in, Flow, gave, next, returned, exited, Code, cut_to}

-- the same, with these locals after it
abbrev pub with_locals : Locals → Flow → Flow
with_locals locals (gave slot before) = gave slot locals
with_locals locals (next before) = next locals
with_locals locals (returned slot before) = returned slot locals
with_locals locals (exited v from before) = exited v from locals

-- what follows a statement: the others, unless it ended the body
abbrev pub unless_ended : (Locals → Code) → Flow → Code
unless_ended others (gave slot locals) = finish (gave slot locals)
unless_ended others (next locals) = others locals
unless_ended others (returned slot locals) = finish (returned slot locals)
unless_ended others (exited v from locals) = finish (exited v from locals)

-- the same, where the locals behind the first so many go before the others follow
abbrev pub unless_ended_cut : ℕ → (Locals → Code) → Flow → Code
unless_ended_cut count others (gave slot locals) = cut_to count (gave slot locals)
unless_ended_cut count others (next locals) = others (take count locals)
unless_ended_cut count others (returned slot locals) = cut_to count (returned slot locals)
unless_ended_cut count others (exited v from locals) = cut_to count (exited v from locals)

-- a statement among the locals that were bound for it, and then those that were there before
abbrev pub stmt_within : Here → ℕ → StmtTree → Locals → Code
stmt_within here count body locals = part (stmt_in (at here locals) [] body) (cut_to count)

-- ... and where these go only where the body ended
abbrev pub unless_ended_at : ℕ → (Locals → Code) → Flow → Code
unless_ended_at count others (gave slot locals) = cut_to count (gave slot locals)
unless_ended_at count others (next locals) = others locals
unless_ended_at count others (returned slot locals) = cut_to count (returned slot locals)
unless_ended_at count others (exited v from locals) = cut_to count (exited v from locals)

-- the statements one after the other, and then the locals behind the first so many go
abbrev pub sequence : Here → ℕ → StmtTrees → Locals → Code
sequence here count no_stmts locals = cut_to count (next locals)
sequence here count (one_stmt statement statements) locals =
    part (stmt_in (at here locals) [] statement) (unless_ended_at count (sequence here count statements))

-- a call statement whose operation gives a value ends the body with that value
abbrev pub called : Flow → Code
called (gave (Held v) locals) = finish (returned (Held v) locals)
called (gave Unset locals) = finish (next locals)
called (next locals) = finish (next locals)
called (returned slot locals) = finish (returned slot locals)
called (exited v from locals) = finish (exited v from locals)

abbrev pub return_value : ValueTree → Locals → Code
return_value v locals = finish (returned (Held v) locals)

-- an exit with this value, at the place of the statement
abbrev pub exit_value : Place → ValueTree → Locals → Code
exit_value place v locals = finish (exited v place locals)
