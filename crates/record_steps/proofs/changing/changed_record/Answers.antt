use Rattle.std.proofs.Common.{ap, sym, ◌∙◌, map, option_map, Bor, List, Option}
use Rattle.abstract_syntax.specs.Classes.{FieldTree}
use Rattle.abstract_syntax.specs.Values.{ValueTree}
use Rattle.expr_tree.specs.declared.type_def.Field.{Field}
use Rattle.expr_tree.specs.TypeDefView.{field_view}
use Rattle.expr_tree.specs.View.{field_value_trees, field_value_view}
use Rattle.spec_table.specs.Tables.{table_spec}
use Rattle.node_meaning.specs.Records.{changed_record, field_names, tested_again}
use Rattle.eval_data.specs.Parts.{nest_of}
use Rattle.record_steps.proofs.Moving.{handed}
use Rattle.record_steps.proofs.changing.changed_record.Goals as goal

pub returns-in-Some : goal.returns-in-Some
returns-in-Some c =
    let spec = table_spec c.args.table.now in
    handed c.tested_again.result spec c.tested_again.new.locals.items _ _
    (ap (λ (made : Option (List ValueTree)). tested_again spec (nest_of c.args.nest) c.args.class c.args.name c.args.place (map field_view c.in-Some.fields.now) made c.args.locals.now.items) c.with_fields-made.ensures ∙
    ap (λ (o : Option (List FieldTree)). changed_record spec (nest_of c.args.nest) c.args.class c.args.name c.args.place o (field_names (field_value_trees (map field_value_view c.args.changes.now)))
    c.args.given.items c.args.values.items c.args.locals.now.items)
    (ap (option_map (λ (fields : Bor (List Field)). map field_view fields.now)) (sym c.in-Some.is) ∙ c.fields_of.ensures))
    c.tested_again.ensures

pub returns-in-None : goal.returns-in-None
returns-in-None c = λ asker.
    ap (λ (o : Option (List FieldTree)). changed_record (table_spec c.args.table.now) (nest_of c.args.nest) c.args.class c.args.name c.args.place o
    (field_names (field_value_trees (map field_value_view c.args.changes.now))) c.args.given.items c.args.values.items c.args.locals.now.items)
    (ap (option_map (λ (fields : Bor (List Field)). map field_view fields.now)) (sym c.in-None.is) ∙ c.fields_of.ensures)
