-- Local variables, and what is bound for a statement.
use Rattle.std.specs.Prelude.{ℕ, List, [], ◌∷◌, ◌++◌, length, map, Option, Some, None}
use Rattle.std.specs.List.{flat_map}
use Rattle.vdm_kinds.specs.declared.name.Name.{Name}
use Rattle.vdm_kinds.specs.declared.place.Place.{Place}
use Rattle.vdm_values.specs.declared.slot.Slot.TheVariants.{Unset, Held}
use Rattle.abstract_syntax.specs.Types.{TypeTree}
use Rattle.abstract_syntax.specs.Values.{ValueTree}
use Rattle.abstract_syntax.specs.Expressions.{ExprTree, MaybeExpr, left_out, given_expr, BindTree, no_binds, one_bind, DefinedTrees, PatternTrees, no_patterns, one_pattern}
use Rattle.abstract_syntax.specs.Statements.{LocalTree, DclTree, StmtTree, StmtTrees, MaybeStmt, no_stmt, given_stmt, StmtCases, no_stmt_cases, one_stmt_case}
use Rattle.abstract_syntax.specs.Classes.{SpecTree}
use Rattle.plans.specs.Plans.{finish, become, bind}
use Rattle.node_meaning.specs.Choosing.{choosing, finds}
use Rattle.node_meaning.specs.Envs.{Locals, no_nest, Here, at}
use Rattle.node_meaning.specs.Expressions.{definitions}
use Rattle.node_meaning.specs.Fitting.{typed}
use Rattle.node_meaning.specs.Matching.{meets}
use Rattle.node_meaning.specs.Tasks.{Declared, stmt_in, next, Code, among, evaluated}
use Rattle.stmt_meaning.specs.Flows.{unless_ended, stmt_within, sequence}

-- ---- `dcl`

abbrev pub local_value : Name → (Locals → Code) → ValueTree → Locals → Code
local_value name further v locals = further (locals ++ (name, Held v) ∷ [])

-- A local variable without an initial value is unset. Else the value is tested against its type, at the word.
abbrev pub local_given : SpecTree → Here → Place → LocalTree → Option ExprTree → (Locals → Code) → Locals → Code
local_given spec here place local None further locals = further (locals ++ (local.name, Unset) ∷ [])
local_given spec here place local (Some tree) further locals =
    evaluated here locals tree place (typed spec no_nest here.scope local.declared place (local_value local.name further))

-- those of one word, each of which sees the earlier ones
abbrev pub locals_given : SpecTree → Here → Place → List LocalTree → (Locals → Code) → Locals → Code
locals_given spec here place [] further locals = further locals
locals_given spec here place (local ∷ others) further locals =
    local_given spec here place local local.initial (locals_given spec here place others further) locals

-- those of all words
abbrev pub dcls_given : SpecTree → Here → List DclTree → (Locals → Code) → Locals → Code
dcls_given spec here [] further locals = further locals
dcls_given spec here (dcl ∷ dcls) further locals = locals_given spec here dcl.place dcl.locals (dcls_given spec here dcls further) locals

-- the local variables with their types
abbrev pub local_type : LocalTree → Name × TypeTree
local_type local = (local.name, local.declared)

abbrev pub types_declared : List DclTree → Declared
types_declared dcls = flat_map (λ (d : DclTree). map local_type d.locals) dcls

-- the statements of a block among its local variables
abbrev pub block_body : Here → List DclTree → StmtTrees → ℕ → Locals → Code
block_body here dcls statements count locals = among (types_declared dcls) (sequence here count statements locals)

abbrev pub block_of : SpecTree → Here → List DclTree → StmtTrees → Locals → Code
block_of spec here dcls statements locals = dcls_given spec here dcls (block_body here dcls statements (length locals)) locals

-- ---- `let`, `def` and `let be`

-- the definitions, and the statement among what they bind
abbrev pub let_body : SpecTree → Here → Place → DefinedTrees → StmtTree → Locals → Code
let_body spec here place trees body locals = definitions spec here place trees (stmt_within here (length locals) body) locals

abbrev pub maybe_condition : Option ExprTree → MaybeExpr
maybe_condition None = left_out
maybe_condition (Some tree) = given_expr tree

-- the first choice that fulfils the condition, and the statement among what it binds
abbrev pub let_be_body : SpecTree → Here → Place → BindTree → Option ExprTree → StmtTree → Locals → Code
let_be_body spec here place bind_tree condition body locals =
    bind (choosing spec here place (one_bind bind_tree no_binds) (finds (maybe_condition condition)) locals)
    (unless_ended (stmt_within here (length locals) body))

-- ---- `cases`

-- a statement that may be left out, and then there is nothing to do
abbrev pub otherwise_of : Here → MaybeStmt → Locals → Code
otherwise_of here no_stmt locals = finish (next locals)
otherwise_of here (given_stmt statement) locals = become (stmt_in (at here locals) [] statement)

-- the patterns before one statement, and then the alternatives behind it
abbrev pub one_met : SpecTree → Here → Place → ValueTree → PatternTrees → (Locals → Code) → (Locals → Code) → Locals → Code
one_met spec here place v no_patterns matched more locals = more locals
one_met spec here place v (one_pattern pattern patterns) matched more locals =
    meets spec here place pattern matched (one_met spec here place v patterns matched more) v locals

-- the first alternative that matches, then `others`; without either nothing is done
abbrev pub alternatives : SpecTree → Here → Place → ℕ → StmtCases → MaybeStmt → ValueTree → Locals → Code
alternatives spec here place count no_stmt_cases others v locals = otherwise_of here others locals
alternatives spec here place count (one_stmt_case patterns body more) others v locals =
    one_met spec here place v patterns (stmt_within here count body) (alternatives spec here place count more others v) locals
