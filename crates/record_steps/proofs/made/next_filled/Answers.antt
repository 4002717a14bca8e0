use Rattle.std.proofs.Common.{sym, ◌∙◌}
use Rattle.std.proofs.lemmas.Result.{IfOk-weaker}
use Rattle.spec_table.specs.Tables.{table_spec}
use Rattle.record_steps.proofs.made.next_filled.Goals as goal

pub returns-in-Wrong : goal.returns-in-Wrong
returns-in-Wrong c = λ asker. sym ((rw c.in-Wrong.is at c.in_ok-next_field.ensures) (table_spec c.args.table.now) c.args.place c.args.locals.now.items)

pub returns : goal.returns
returns c =
    let spec = table_spec c.args.table.now in
    IfOk-weaker c.field_filled.result _ _ (λ f is asker.
    is asker ∙ sym ((rw c.in-Field.is at c.in_ok-next_field.ensures) spec c.args.place c.args.locals.now.items)) c.field_filled.ensures
