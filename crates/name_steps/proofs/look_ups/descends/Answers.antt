use Rattle.std.proofs.Common.{◌∙◌}
use Rattle.class_meaning.specs.Classes.{class_number}
use Rattle.spec_table.specs.Tables.{table_spec}
use Rattle.name_steps.proofs.LookUps.{descends_alike}
use Rattle.name_steps.proofs.look_ups.descends.Goals as goal

pub returns : goal.returns
returns c =
    let spec = table_spec c.args.table.now in
    c.is_kind_of.ensures ∙ descends_alike spec (class_number spec c.args.class) (class_number spec c.args.ancestor)
