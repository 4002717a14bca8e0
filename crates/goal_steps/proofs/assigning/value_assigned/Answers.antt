use Rattle.spec_table.specs.Tables.{table_spec}
use Rattle.plans.specs.Plans.{bind}
use Rattle.node_meaning.specs.Tasks.{with_value}
use Rattle.stmt_meaning.specs.Questions.{of_thread}
use Rattle.stmt_meaning.specs.Targets.{goal_typed, stored}
use Rattle.eval_data.specs.Parts.{here_of}
use Rattle.fit_steps.specs.Tests.{tested_code}
use Rattle.step_data.specs.Goals.{goal_view}
use Rattle.goal_steps.proofs.Moving.{at_spec}
use Rattle.goal_steps.proofs.assigning.value_assigned.Goals as goal

pub returns-clause-same : goal.returns-clause-same
returns-clause-same c =
    let spec = table_spec c.args.table.now in
    let place = c.args.place in
    let g = goal_view c.args.goal in
    at_spec c.store_tested.new.locals.items c.store_tested.result spec
    (λ s. bind (tested_code (of_thread s) place c.goal_tested.new.locals.items c.in_ok-tested.tested) (with_value place (stored place g)))
    (goal_typed spec (here_of c.args.here) place g (stored place g) c.args.value c.args.locals.now.items)
    c.store_tested.ensures.same (c.in_ok-tested.ensures (stored place g))
