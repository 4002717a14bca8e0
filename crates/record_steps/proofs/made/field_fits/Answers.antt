use Rattle.std.proofs.Common.{ap, ◌∙◌}
use Rattle.std.proofs.lemmas.Result.{IfOk-weaker}
use Rattle.spec_table.specs.Tables.{table_spec}
use Rattle.eval_data.specs.declared.fitting.Filling.{Filling}
use Rattle.eval_data.specs.Steps.{fields_left}
use Rattle.record_steps.proofs.made.field_fits.Goals as goal

pub returns : goal.returns
returns c =
    IfOk-weaker c.fields_left.result _ _ (λ s is asker.
    is asker ∙ ap (λ (f : Filling). fields_left (table_spec c.args.table.now) f c.args.place c.args.locals.now.items) c.into_inner.ensures) c.fields_left.ensures
