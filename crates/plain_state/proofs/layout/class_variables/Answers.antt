use Rattle.class_meaning.specs.Classes.{class_number}
use Rattle.class_meaning.specs.Objects.{statics}
use Rattle.spec_table.specs.Tables.{table_spec}
use Rattle.plain_state.proofs.Variables.{listed-by}
use Rattle.plain_state.proofs.layout.class_variables.Goals as goal

pub returns : goal.returns
returns c = listed-by (statics (table_spec c.args.table.now)) (class_number (table_spec c.args.table.now) c.args.class) _ c.statics.ensures.some c.statics.ensures.none
