use Rattle.class_meaning.specs.Classes.{class_number}
use Rattle.class_meaning.specs.Objects.{layout}
use Rattle.spec_table.specs.Tables.{table_spec}
use Rattle.plain_state.proofs.Variables.{listed-by}
use Rattle.plain_state.proofs.layout.object_variables.Goals as goal

pub returns : goal.returns
returns c = listed-by (layout (table_spec c.args.table.now)) (class_number (table_spec c.args.table.now) c.args.class) _ c.layout.ensures.some c.layout.ensures.none
