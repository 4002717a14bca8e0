use Rattle.std.proofs.Common.{ap, ◌∙◌}
use Rattle.std.proofs.lemmas.Result.{IfOk-weaker}
use Rattle.abstract_syntax.specs.Values.{value_trees}
use Rattle.spec_table.specs.Tables.{table_spec}
use Rattle.node_meaning.specs.Records.{field_value}
use Rattle.node_meaning.specs.Tasks.{value_or_fault}
use Rattle.name_steps.proofs.selecting.field_of.Goals as goal

pub returns : goal.returns
returns c =
    IfOk-weaker c.outcome_step.result _ _ (λ s is setting locals.
    is setting locals ∙
    ap (λ vs. value_or_fault c.args.place (field_value (table_spec c.args.table.now) c.args.name c.args.class c.args.type_name (value_trees vs)) locals)
    c.as_slice.ensures.value)
    (c.outcome_step.ensures _ c.field_value.ensures)
