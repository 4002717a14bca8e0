-- What is done about exits and returns: `always`, `trap` and `tixe`.
use Rattle.std.specs.Prelude.{ℕ, [], length, take}
use Rattle.vdm_kinds.specs.declared.place.Place.{Place}
use Rattle.abstract_syntax.specs.Values.{ValueTree}
use Rattle.abstract_syntax.specs.Expressions.{PatternTree}
use Rattle.abstract_syntax.specs.Statements.{StmtTree, HandlerTrees, no_handlers, one_handler}
use Rattle.abstract_syntax.specs.Classes.{SpecTree}
use Rattle.plans.specs.Plans.{finish, part, become}
use Rattle.node_meaning.specs.Envs.{Locals, Here, at}
use Rattle.node_meaning.specs.Matching.{meets}
use Rattle.node_meaning.specs.Tasks.{stmt_in, round_in, handles, Flow, gave, next, returned, exited, Code}
use Rattle.stmt_meaning.specs.Flows.{stmt_within, with_locals}

-- ---- `always`

abbrev pub locals_of : Flow → Locals
locals_of (gave slot locals) = locals
locals_of (next locals) = locals
locals_of (returned slot locals) = locals
locals_of (exited v from locals) = locals

-- what comes of the last statement replaces what came before it, where it is an exit or a return
abbrev pub unless_replaced : Flow → Flow → Code
unless_replaced before (gave slot locals) = finish (gave slot locals)
unless_replaced before (next locals) = finish (with_locals locals before)
unless_replaced before (returned slot locals) = finish (returned slot locals)
unless_replaced before (exited v from locals) = finish (exited v from locals)

-- the last statement, whatever came of the body: the locals behind the first so many go, which an exit may have left
abbrev pub at_last : Here → ℕ → StmtTree → Flow → Code
at_last here count last flow = part (stmt_in (at here (take count (locals_of flow))) [] last) (unless_replaced flow)

-- ---- `trap`

abbrev pub exit_on : ValueTree → Place → Locals → Code
exit_on v from locals = finish (exited v from locals)

-- the handler of an exit that the pattern matches, among the first so many locals; any other goes on
abbrev pub trapped : SpecTree → Here → Place → PatternTree → StmtTree → ℕ → Flow → Code
trapped spec here place pattern handler count (gave slot locals) = finish (gave slot locals)
trapped spec here place pattern handler count (next locals) = finish (next locals)
trapped spec here place pattern handler count (returned slot locals) = finish (returned slot locals)
trapped spec here place pattern handler count (exited v from locals) =
    meets spec here place pattern (stmt_within here count handler) (exit_on v from) v (take count locals)

-- ---- `tixe`

-- a handler, whose own exits are handled too
abbrev pub handling : Here → Place → HandlerTrees → ℕ → StmtTree → Locals → Code
handling here place all count body locals = become (round_in (at here locals) [] (handles all count body place))

-- the first of these handlers whose pattern matches; without one the exit goes on
abbrev pub handled_by : SpecTree → Here → Place → HandlerTrees → ℕ → HandlerTrees → ValueTree → Place → Locals → Code
handled_by spec here place all count no_handlers v from locals = exit_on v from locals
handled_by spec here place all count (one_handler pattern body others) v from locals =
    meets spec here place pattern (handling here place all count body) (handled_by spec here place all count others v from) v locals

-- what is done behind the body, and behind a handler: the locals behind the first so many go
abbrev pub caught : SpecTree → Here → Place → HandlerTrees → ℕ → Flow → Code
caught spec here place all count (gave slot locals) = finish (gave slot (take count locals))
caught spec here place all count (next locals) = finish (next (take count locals))
caught spec here place all count (returned slot locals) = finish (returned slot (take count locals))
caught spec here place all count (exited v from locals) = handled_by spec here place all count all v from (take count locals)

abbrev pub caught_in : SpecTree → Here → Place → HandlerTrees → StmtTree → Locals → Code
caught_in spec here place all body locals = part (stmt_in (at here locals) [] body) (caught spec here place all (length locals))
