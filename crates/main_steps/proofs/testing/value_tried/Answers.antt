use Rattle.std.proofs.Common.{Some, ap, ◌∙◌}
use Rattle.abstract_syntax.specs.Values.{ValueTree}
use Rattle.type_tree.specs.TypeView.{type_view}
use Rattle.node_meaning.specs.Envs.{Nest, no_nest}
use Rattle.node_meaning.specs.Fitting.{fitted}
use Rattle.node_meaning.specs.Tasks.{Code}
use Rattle.stmt_meaning.specs.Questions.{thread}
use Rattle.vdm_meaning.specs.Main.{came}
use Rattle.plans.specs.Plans.{bind}
use Rattle.spec_table.specs.Tables.{table_spec}
use Rattle.main_steps.proofs.testing.value_tried.Goals as goal

pub returns : goal.returns
returns c = λ further.
    let spec = table_spec c.args.table.now in
    let declared = type_view c.args.declared.now in
    let place = c.args.place in
    c.without_value.ensures spec c.fitted.new.locals.items further
    ∙ ap (λ (code : Code). bind code (came place (λ v. further)))
    (c.in_ok-tested.ensures (thread spec)
    ∙ ap (λ (nest : Nest). fitted spec nest (Some c.args.class) declared place c.in_ok-value.value c.cleared.new.locals.items) c.none-nest.ensures
    ∙ ap (λ (v : ValueTree). fitted spec no_nest (Some c.args.class) declared place v c.cleared.new.locals.items) c.in_ok-value.ensures
    ∙ ap (fitted spec no_nest (Some c.args.class) declared place c.args.value.now) c.cleared.ensures)
