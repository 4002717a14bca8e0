use Rattle.std.proofs.Common.{ap, sym, ◌∙◌, option_map, Option}
use Rattle.pattern_meaning.specs.RecordTypes.{RecordType}
use Rattle.record_names.specs.Names.{record_type_of_names}
use Rattle.spec_table.specs.Tables.{table_spec}
use Rattle.node_meaning.specs.Records.{record_of_type}
use Rattle.eval_data.specs.Parts.{nest_of}
use Rattle.record_steps.proofs.Moving.{handed}
use Rattle.record_steps.proofs.making.record_made.Goals as goal

pub returns-in-Some : goal.returns-in-Some
returns-in-Some c =
    let spec = table_spec c.args.table.now in
    handed c.record_in.result spec c.record_in.new.locals.items _ _
    (ap (λ (o : Option RecordType). record_of_type spec (nest_of c.args.nest) c.args.place o c.args.values.items c.args.locals.now.items)
    (ap (option_map record_type_of_names) (sym c.in-Some.is) ∙ c.in_ok-found.ensures))
    c.record_in.ensures

pub returns-in-None : goal.returns-in-None
returns-in-None c = λ asker.
    ap (λ (o : Option RecordType). record_of_type (table_spec c.args.table.now) (nest_of c.args.nest) c.args.place o c.args.values.items c.args.locals.now.items)
    (ap (option_map record_type_of_names) (sym c.in-None.is) ∙ c.in_ok-found.ensures)
