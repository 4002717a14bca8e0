use Rattle.std.proofs.Common.{ap, sym, ◌∙◌}
use Rattle.spec_table.specs.Tables.{table_spec}
use Rattle.step_data.specs.declared.asking.Asking.{Asking}
use Rattle.step_data.specs.Actions.{answered_of}
use Rattle.next_steps.proofs.answered.answered_of.Goals as goal

pub returns-in-Request-clause-same : goal.returns-in-Request-clause-same
returns-in-Request-clause-same c =
    let spec = table_spec c.args.table.now in
    let locals = c.args.locals.now.items in
    c.requested.ensures.same spec locals ∙ ap (λ (a : Asking). answered_of spec locals a c.args.answer) (sym c.in-Request.is)

pub returns-in-Time-clause-same : goal.returns-in-Time-clause-same
returns-in-Time-clause-same c =
    let spec = table_spec c.args.table.now in
    let locals = c.args.locals.now.items in
    c.time_told.ensures.same spec locals ∙ ap (λ (a : Asking). answered_of spec locals a c.args.answer) (sym c.in-Time.is)
