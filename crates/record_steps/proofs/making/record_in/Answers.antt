use Rattle.std.proofs.Common.{ap, sym, ◌∙◌, map, option_map, Bor, List, Option}
use Rattle.abstract_syntax.specs.Classes.{FieldTree}
use Rattle.expr_tree.specs.declared.type_def.Field.{Field}
use Rattle.expr_tree.specs.TypeDefView.{field_view}
use Rattle.spec_table.specs.Tables.{table_spec}
use Rattle.node_meaning.specs.Records.{record_with}
use Rattle.eval_data.specs.Parts.{nest_of}
use Rattle.record_steps.proofs.Moving.{handed}
use Rattle.record_steps.proofs.making.record_in.Goals as goal

pub returns-in-Some : goal.returns-in-Some
returns-in-Some c =
    let spec = table_spec c.args.table.now in
    handed c.record_with.result spec c.record_with.new.locals.items _ _
    (ap (λ (o : Option (List FieldTree)). record_with spec (nest_of c.args.nest) c.args.class c.args.name c.args.place o c.args.values.items c.args.locals.now.items)
    (ap (option_map (λ (fields : Bor (List Field)). map field_view fields.now)) (sym c.in-Some.is) ∙ c.fields_of.ensures))
    c.record_with.ensures

pub returns-in-None : goal.returns-in-None
returns-in-None c = λ asker.
    ap (λ (o : Option (List FieldTree)). record_with (table_spec c.args.table.now) (nest_of c.args.nest) c.args.class c.args.name c.args.place o c.args.values.items c.args.locals.now.items)
    (ap (option_map (λ (fields : Bor (List Field)). map field_view fields.now)) (sym c.in-None.is) ∙ c.fields_of.ensures)
