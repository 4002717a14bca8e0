use Rattle.std.proofs.Common.{ap, ◌∙◌}
use Rattle.std.proofs.lemmas.Result.{IfOk-weaker}
use Rattle.plans.specs.Plans.{bind}
use Rattle.spec_table.specs.Tables.{table_spec}
use Rattle.node_meaning.specs.Tasks.{Code, with_value}
use Rattle.eval_data.specs.Steps.{fields_left}
use Rattle.fit_steps.specs.Tests.{under}
use Rattle.record_steps.proofs.made.field_filled.Goals as goal

pub returns : goal.returns
returns c =
    let spec = table_spec c.args.table.now in
    IfOk-weaker c.behind_field.result _ _ (λ f is asker.
    is (under spec asker) c.fitted.new.locals.items
    ∙ ap (λ (p : Code). bind p (with_value c.args.place (λ v. fields_left spec c.args.filling c.args.place))) (c.in_ok-tested.ensures asker))
    c.behind_field.ensures
