-- Local variables with initial values.
use Rattle.std.specs.Prelude.{map, Option, Some, None}
use Rattle.vdm_kinds.specs.declared.place.Place.{Place}
use Rattle.abstract_syntax.specs.Classes.{SpecTree}
use Rattle.expr_tree.specs.View.{boxed_view}
use Rattle.type_tree.specs.TypeView.{type_view}
use Rattle.vdm_tree.specs.StmtView.{local_view}
use Rattle.node_meaning.specs.Envs.{Here, Locals, no_nest}
use Rattle.node_meaning.specs.Fitting.{typed}
use Rattle.node_meaning.specs.Tasks.{Code, evaluated}
use Rattle.stmt_meaning.specs.Blocks.{local_value, locals_given}
use Rattle.goal_steps.specs.declared.initials.Initial.{Initial}

-- what is done with its initial value, and behind it
abbrev pub initial_code : SpecTree → Here → Place → (Locals → Code) → Initial → Locals → Code
initial_code spec here place further i locals =
    evaluated here locals (boxed_view i.value.now) place
    (typed spec no_nest here.scope (type_view i.local.now.declared) place
    (local_value i.local.now.name (locals_given spec here place (map local_view i.others.now) further)))

-- the next one, where there is one
abbrev pub next_code : SpecTree → Here → Place → (Locals → Code) → Option Initial → Locals → Code
next_code spec here place further None locals = further locals
next_code spec here place further (Some i) locals = initial_code spec here place further i locals
