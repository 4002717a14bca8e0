use Rattle.std.proofs.Common.{List, ap, map, ◌∙◌}
use Rattle.std.proofs.lemmas.Result.{IfOk-weaker}
use Rattle.abstract_syntax.specs.Values.{ValueTree}
use Rattle.expr_tree.specs.TypeDefView.{field_view}
use Rattle.spec_table.specs.Tables.{table_spec}
use Rattle.node_meaning.specs.Records.{fields_typed, record_value}
use Rattle.eval_data.specs.Parts.{nest_of}
use Rattle.record_steps.proofs.made.record_with.Goals as goal

pub returns : goal.returns
returns c =
    IfOk-weaker c.fields_left.result _ _ (λ s is asker.
    is asker
    ∙ ap (λ (vs : List ValueTree). fields_typed (table_spec c.args.table.now) (nest_of c.args.nest) c.args.class c.args.place (map field_view c.args.fields.now) vs (record_value c.args.class c.args.name c.args.place vs) c.args.locals.now.items)
    (c.into_vec-values.ensures ∙ c.in_ok-all_shared.ensures)) c.fields_left.ensures
