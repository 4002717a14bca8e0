use Rattle.spec_table.specs.Tables.{table_spec}
use Rattle.step_data.specs.Goals.{kept_with}
use Rattle.goal_steps.proofs.Coming.{value_came}
use Rattle.goal_steps.proofs.keeping.goal_fits.Goals as goal

pub returns-in-Is-clause-same : goal.returns-in-Is-clause-same
returns-in-Is-clause-same c =
    let spec = table_spec c.args.table.now in
    let a = c.args.assigning.value in
    value_came c.value_in.result c.args.flow c.in-Is.value c.in-Is.is c.value_in.ensures spec a.place (kept_with spec a)
    c.args.locals.now.items c.value_kept.new.locals.items c.value_kept.result c.value_kept.ensures.same
