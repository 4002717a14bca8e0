use Rattle.std.proofs.Common.{ap, sym, map, List}
use Rattle.abstract_syntax.specs.Values.{ValueTree}
use Rattle.expr_tree.specs.View.{field_value_trees, field_value_view}
use Rattle.spec_table.specs.Tables.{table_spec}
use Rattle.node_meaning.specs.Records.{field_names, record_changed}
use Rattle.eval_data.specs.Parts.{nest_of}
use Rattle.record_steps.proofs.Moving.{handed}
use Rattle.record_steps.proofs.changing.record_changed.Goals as goal

pub returns-in-Some : goal.returns-in-Some
returns-in-Some c =
    let spec = table_spec c.args.table.now in
    handed c.changed_value.result spec c.changed_value.new.locals.items _ _
    (ap (λ (vs : List ValueTree). record_changed spec (nest_of c.args.nest) (field_names (field_value_trees (map field_value_view c.args.changes.now))) c.args.place vs c.args.locals.now.items) (sym c.in-Some.ensures))
    c.changed_value.ensures
