use Rattle.spec_table.specs.Tables.{table_spec}
use Rattle.step_data.specs.Meetings.{defined_tested}
use Rattle.meet_steps.proofs.Coming.{value_came}
use Rattle.meet_steps.proofs.defining.defined.Goals as goal

pub returns-in-Is-clause-same : goal.returns-in-Is-clause-same
returns-in-Is-clause-same c =
    let spec = table_spec c.args.table.now in
    let d = c.args.defining.value in
    value_came c.value_in.result c.args.flow c.in-Is.value c.in-Is.is c.value_in.ensures spec d.place
    (defined_tested spec d) c.args.locals.now.items c.test.new.locals.items c.test.result c.test.ensures.same
