use Rattle.std.proofs.Common.{◌≡◌, ap, sym, ◌∙◌}
use Rattle.type_tree.specs.TypeView.{type_view}
use Rattle.plans.specs.Plans.{bind}
use Rattle.node_meaning.specs.Envs.{no_nest}
use Rattle.node_meaning.specs.Fitting.{fitted, typed}
use Rattle.node_meaning.specs.Needs.{Asker}
use Rattle.spec_table.specs.Tables.{table_spec}
use Rattle.stmt_meaning.specs.Blocks.{local_value}
use Rattle.stmt_meaning.specs.Questions.{of_thread}
use Rattle.eval_data.specs.Parts.{nest_of}
use Rattle.fit_steps.specs.Tests.{tested_code, under}
use Rattle.step_data.specs.declared.block.Declaring.{Declaring}
use Rattle.step_data.specs.Declarations.{local_fits, locals_left}
use Rattle.goal_steps.proofs.Fitting.{used_behind}
use Rattle.goal_steps.proofs.Moving.{at_spec}
use Rattle.goal_steps.proofs.blocks.local_tested.Goals as goal

pub returns-clause-same : goal.returns-clause-same
returns-clause-same c =
    let spec = table_spec c.args.table.now in
    let d = c.args.declaring.value in
    let tested = c.in_ok-tested.tested in
    let locals = c.args.locals.now.items in
    let between = c.fitted.new.locals.items in
    let further = local_value d.name (locals_left spec d) in
    let fits : (asker : Asker) → tested_code (under spec asker) d.place between tested ≡ fitted spec (nest_of c.none-nest.result) d.rest.here.scope (type_view d.declared.now) d.place c.args.value locals =
    λ asker. ap (λ (e : Declaring). tested_code (under spec asker) e.place between tested) (sym c.deref-3.ensures)
    ∙ c.in_ok-tested.ensures asker
    ∙ (λ i. fitted spec (nest_of c.none-nest.result) (c.deref.ensures i).rest.here.scope (type_view (c.deref-2.ensures i).declared.now) (c.deref-3.ensures i).place c.args.value locals)
    in
    at_spec c.local_decided.new.locals.items c.local_decided.result spec (λ s. bind (tested_code (of_thread s) d.place between tested) (local_fits s d))
    (typed spec no_nest d.rest.here.scope (type_view d.declared.now) d.place further c.args.value locals) c.local_decided.ensures.same
    (used_behind spec (nest_of c.none-nest.result) d.rest.here.scope (type_view d.declared.now) d.place c.args.value locals between c.none-nest.ensures tested fits further)
