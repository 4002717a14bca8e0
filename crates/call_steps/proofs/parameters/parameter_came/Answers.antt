use Rattle.spec_table.specs.Tables.{table_spec}
use Rattle.node_meaning.specs.Matching.{exprs_of}
use Rattle.node_meaning.specs.Strict.{with_others}
use Rattle.stmt_meaning.specs.Calling.{calling_here}
use Rattle.stmt_meaning.specs.Calls.{bound}
use Rattle.step_data.specs.Callings.{calling_of}
use Rattle.call_steps.proofs.Waits.{brackets_left}
use Rattle.call_steps.proofs.Coming.{moved, value_came}
use Rattle.call_steps.proofs.parameters.parameter_came.Goals as goal

pub returns-in-Is-clause-same : goal.returns-in-Is-clause-same
returns-in-Is-clause-same c =
    let spec = table_spec c.args.table.now in
    let b = c.args.binding.value in
    let call = calling_of b.call.value in
    moved spec c.bracket_came.new.locals.items c.bracket_came.result _ _ c.bracket_came.ensures.same
    (value_came c.value_in.result c.args.flow c.in-Is.value c.in-Is.is c.value_in.ensures b.call.value.place
    (with_others (calling_here call) b.call.value.place (exprs_of (brackets_left b)) b.given.items (bound spec call)) c.args.locals.now.items)
