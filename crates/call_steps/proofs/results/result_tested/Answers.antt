use Rattle.std.proofs.Common.{Some, ap, ◌∙◌}
use Rattle.std.proofs.lemmas.Result.{IfOk-weaker}
use Rattle.type_tree.specs.TypeView.{type_view}
use Rattle.node_meaning.specs.Envs.{Nest}
use Rattle.node_meaning.specs.Fitting.{fitted}
use Rattle.spec_table.specs.Tables.{table_spec}
use Rattle.call_steps.proofs.results.result_tested.Goals as goal

pub returns : goal.returns
returns c =
    IfOk-weaker c.fitted.result _ _ (λ t h asker.
    h asker
    ∙ ap (λ (nest : Nest). fitted (table_spec c.args.table.now) nest (Some c.args.call.now.op.class) (type_view c.args.declared.now) c.args.call.now.place c.args.value c.args.locals.now.items)
    c.none-nest.ensures) c.fitted.ensures
