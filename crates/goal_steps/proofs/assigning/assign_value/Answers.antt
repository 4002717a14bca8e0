use Rattle.spec_table.specs.Tables.{table_spec}
use Rattle.stmt_meaning.specs.Targets.{goal_typed, stored}
use Rattle.eval_data.specs.Parts.{here_of}
use Rattle.step_data.specs.Goals.{goal_view}
use Rattle.goal_steps.proofs.Coming.{value_came}
use Rattle.goal_steps.proofs.assigning.assign_value.Goals as goal

pub returns-in-Is-clause-same : goal.returns-in-Is-clause-same
returns-in-Is-clause-same c =
    let spec = table_spec c.args.table.now in
    let place = c.args.place in
    let g = goal_view c.args.goal in
    value_came c.value_in.result c.args.flow c.in-Is.value c.in-Is.is c.value_in.ensures spec place
    (goal_typed spec (here_of c.args.here) place g (stored place g)) c.args.locals.now.items c.value_assigned.new.locals.items c.value_assigned.result
    c.value_assigned.ensures.same
