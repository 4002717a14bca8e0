use Rattle.class_meaning.specs.Classes.{class_number}
use Rattle.class_meaning.specs.Objects.{statics}
use Rattle.spec_table.specs.Tables.{table_spec}
use Rattle.main_steps.proofs.Evaluating.{listed_by}
use Rattle.main_steps.proofs.main_code.class_variables.Goals as goal

pub returns : goal.returns
returns c =
    let spec = table_spec c.args.table.now in
    listed_by (statics spec) (class_number spec c.args.class) _ c.statics.ensures.some c.statics.ensures.none
