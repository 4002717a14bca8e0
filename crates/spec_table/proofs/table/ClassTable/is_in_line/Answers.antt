use Rattle.spec_table.specs.Tables.{table_spec}
use Rattle.std.proofs.Common.{◌∙◌}
use Rattle.spec_table.proofs.Reaching.{descends_named}
use Rattle.spec_table.proofs.table.ClassTable.is_in_line.Goals as goal

pub returns : goal.returns
returns c =
    λ a e. c.has_name.ensures
    ∙ descends_named (table_spec c.args.self.now) c.args.self.now.fine c.args.class c.args.ancestor a e c.ancestors.result.now
    c.ancestors.ensures.some c.ancestors.ensures.none
