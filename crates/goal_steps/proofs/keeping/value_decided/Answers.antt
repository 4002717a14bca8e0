use Rattle.std.proofs.Common.{ap, sym}
use Rattle.spec_table.specs.Tables.{table_spec}
use Rattle.plans.specs.Plans.{bind}
use Rattle.node_meaning.specs.Tasks.{with_value}
use Rattle.stmt_meaning.specs.Questions.{of_thread}
use Rattle.fit_steps.specs.declared.tested.Tested.{Tested}
use Rattle.fit_steps.specs.Tests.{tested_code}
use Rattle.step_data.specs.declared.waiting.Waiting.TheVariants.{GoalFits}
use Rattle.step_data.specs.Actions.{nested}
use Rattle.step_data.specs.Goals.{kept_with}
use Rattle.goal_steps.proofs.Moving.{at_these}
use Rattle.goal_steps.proofs.keeping.value_decided.Goals as goal

pub returns-clause-same : goal.returns-clause-same
returns-clause-same c =
    let spec = table_spec c.args.table.now in
    let locals = c.args.locals.now.items in
    let a = c.args.assigning.value in
    at_these c.fit.result spec locals (λ s l. nested s l c.in-Asks.here c.in-Asks.tree c.in-Asks.inner (GoalFits c.args.assigning))
    (bind (tested_code (of_thread spec) a.place locals c.args.tested) (with_value a.place (kept_with spec a)))
    c.fit.ensures.same
    (ap (λ (t : Tested). bind (tested_code (of_thread spec) a.place locals t) (with_value a.place (kept_with spec a))) (sym c.in-Asks.is))
