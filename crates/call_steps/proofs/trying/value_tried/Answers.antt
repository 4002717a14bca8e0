use Rattle.std.proofs.Common.{Some, ap, ◌∙◌}
use Rattle.abstract_syntax.specs.Values.{ValueTree}
use Rattle.type_tree.specs.TypeView.{type_view}
use Rattle.node_meaning.specs.Envs.{Nest, no_nest}
use Rattle.node_meaning.specs.Fitting.{typed}
use Rattle.stmt_meaning.specs.Questions.{thread}
use Rattle.node_meaning.specs.Tasks.{Code, with_value}
use Rattle.plans.specs.Plans.{bind}
use Rattle.spec_table.specs.Tables.{table_spec}
use Rattle.call_steps.proofs.trying.value_tried.Goals as goal

pub returns : goal.returns
returns c = λ further.
    let spec = table_spec c.args.table.now in
    let declared = type_view c.args.declared.now in
    c.without_value.ensures spec c.args.place c.fitted.new.locals.items further
    ∙ ap (λ (code : Code). bind code (with_value c.args.place (λ v. further))) (c.in_ok-tested.ensures (thread spec))
    ∙ ap (λ (nest : Nest). typed spec nest (Some c.args.class) declared c.args.place (λ v. further) c.in_ok-value.value c.args.locals.now.items) c.none-nest.ensures
    ∙ ap (λ (v : ValueTree). typed spec no_nest (Some c.args.class) declared c.args.place (λ w. further) v c.args.locals.now.items) c.in_ok-value.ensures
