use Rattle.std.proofs.Common.{ap, sym, ◌∙◌}
use Rattle.stmt_meaning.specs.Calls.{body_left}
use Rattle.eval_data.specs.declared.flow.Flow.{Flow}
use Rattle.eval_data.specs.Parts.{flow_of}
use Rattle.spec_table.specs.Tables.{table_spec}
use Rattle.step_data.specs.Actions.{action_code}
use Rattle.step_data.specs.Callings.{calling_of}
use Rattle.call_steps.proofs.bodies.body_left.Goals as goal

pub returns-clause-same : goal.returns-clause-same
returns-clause-same c =
    let spec = table_spec c.args.table.now in
    ap (action_code spec c.args.locals.now.items) c.exited.ensures
    ∙ ap (λ (f : Flow). body_left spec (calling_of c.args.call.value) c.args.count (flow_of f c.args.locals.now.items)) (sym c.in-Exited.is)
