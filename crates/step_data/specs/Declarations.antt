-- The local variables that are declared round a statement, in the words of the meaning.
use Rattle.std.specs.Prelude.{[], map, unwrap_or, option_map}
use Rattle.std.specs.Borrow.{Bor}
use Rattle.vdm_kinds.specs.declared.name.Name.{Name}
use Rattle.abstract_syntax.specs.Types.{TypeTree}
use Rattle.abstract_syntax.specs.Classes.{SpecTree}
use Rattle.type_tree.specs.TypeView.{type_view}
use Rattle.type_tree.specs.declared.type_expr.TypeExpr.{TypeExpr}
use Rattle.vdm_tree.specs.StmtView.{dcl_view, local_view}
use Rattle.eval_data.specs.Parts.{here_of, nest_of}
use Rattle.node_meaning.specs.Envs.{Locals, no_nest}
use Rattle.node_meaning.specs.Fitting.{typed}
use Rattle.node_meaning.specs.Tasks.{Declared as MeantDeclared, Flow as MeantFlow, Code, placed, among, with_value}
use Rattle.stmt_meaning.specs.Blocks.{local_value, locals_given, dcls_given, block_body}
use Rattle.step_data.specs.declared.around.Around.{Around}
use Rattle.step_data.specs.declared.block.BlockRest.{BlockRest}
use Rattle.step_data.specs.declared.block.Declaring.{Declaring}
use Rattle.step_data.specs.declared.declared.Declared.{Declared}
use Rattle.step_data.specs.Parts.{statements_of}

abbrev pub typed_name : Name × Bor TypeExpr → Name × TypeTree
typed_name d = (d.0, type_view d.1.now)

abbrev pub declared_of : Declared → MeantDeclared
declared_of d = map typed_name (unwrap_or (option_map (λ s. s.value.items) d.shared) [])

-- what is done inside of the tests of types and among the local variables that stand round a node
abbrev pub surrounded : Around → Code → Code
surrounded around code = placed (nest_of around.nest) (among (declared_of around.declared) code)

-- ---- blocks

abbrev pub rest_of_block : BlockRest → Locals → Code
rest_of_block rest = block_body (here_of rest.here) (map dcl_view rest.dcls.now) (statements_of rest.statements.now) rest.count

-- the local variables behind this one, and then the statements
abbrev pub locals_left : SpecTree → Declaring → Locals → Code
locals_left spec d =
    locals_given spec (here_of d.rest.here) d.place (map local_view d.locals.now)
    (dcls_given spec (here_of d.rest.here) (map dcl_view d.dcls.now) (rest_of_block d.rest))

-- its initial value, which fits its type
abbrev pub local_fits : SpecTree → Declaring → MeantFlow → Code
local_fits spec d = with_value d.place (local_value d.name (locals_left spec d))

-- ... and before it is tested
abbrev pub local_came : SpecTree → Declaring → MeantFlow → Code
local_came spec d =
    with_value d.place
    (typed spec no_nest (here_of d.rest.here).scope (type_view d.declared.now) d.place (local_value d.name (locals_left spec d)))
