use Rattle.spec_table.specs.Tables.{table_spec}
use Rattle.stmt_meaning.specs.Targets.{goal_typed}
use Rattle.eval_data.specs.Parts.{here_of}
use Rattle.step_data.specs.Goals.{goal_view, kept_with}
use Rattle.goal_steps.proofs.Coming.{value_came}
use Rattle.goal_steps.proofs.keeping.join_came.Goals as goal

pub returns-in-Is-clause-same : goal.returns-in-Is-clause-same
returns-in-Is-clause-same c =
    let spec = table_spec c.args.table.now in
    let a = c.args.assigning.value in
    value_came c.value_in.result c.args.flow c.in-Is.value c.in-Is.is c.value_in.ensures spec a.place
    (goal_typed spec (here_of a.here) a.place (goal_view a.goal) (kept_with spec a))
    c.args.locals.now.items c.value_tested.new.locals.items c.value_tested.result c.value_tested.ensures.same
