use Rattle.std.proofs.Common.{ap, ◌∙◌, map}
use Rattle.vdm_values.specs.Tree.{tree_of}
use Rattle.expr_tree.specs.View.{field_value_trees, field_value_view}
use Rattle.spec_table.specs.Tables.{table_spec}
use Rattle.node_meaning.specs.Records.{field_names}
use Rattle.eval_data.specs.Parts.{nest_of}
use Rattle.record_steps.proofs.Moving.{handed, record_changes}
use Rattle.record_steps.proofs.changing.changed_value.Goals as goal

pub returns-in-Rec : goal.returns-in-Rec
returns-in-Rec c =
    let spec = table_spec c.args.table.now in
    handed c.changed_record.result spec c.changed_record.new.locals.items _ _
    (record_changes spec (nest_of c.args.nest) (field_names (field_value_trees (map field_value_view c.args.changes.now)))
    c.in-Rec.class c.in-Rec.name c.args.place c.in-Rec.fields.items c.args.given.items c.args.target c.args.locals.now.items (c.in_ok-node.ensures.tree ∙ ap tree_of c.in-Rec.is))
    c.changed_record.ensures
