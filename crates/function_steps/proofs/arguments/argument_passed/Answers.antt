use Rattle.std.proofs.Common.{ap, ◌∙◌}
use Rattle.std.proofs.lemmas.Result.{IfOk-weaker}
use Rattle.plans.specs.Plans.{bind}
use Rattle.spec_table.specs.Tables.{table_spec}
use Rattle.node_meaning.specs.Tasks.{Code, with_value}
use Rattle.eval_data.specs.Steps.{arguments_left}
use Rattle.fit_steps.specs.Tests.{under}
use Rattle.function_steps.proofs.arguments.argument_passed.Goals as goal

pub returns : goal.returns
returns c =
    let spec = table_spec c.args.table.now in
    IfOk-weaker c.behind_argument.result _ _ (λ p is asker.
    is (under spec asker) c.fitted.new.locals.items
    ∙ ap (λ (code : Code). bind code (with_value c.args.argument.place (λ v. arguments_left spec c.args.passing))) (c.in_ok-tested.ensures asker))
    c.behind_argument.ensures
