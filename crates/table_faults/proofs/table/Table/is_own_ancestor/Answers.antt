use Rattle.std.proofs.Common.{◌∙◌}
use Rattle.class_meaning.specs.Classes.{class_graph}
use Rattle.table_faults.specs.Tables.{spec_in}
use Rattle.table_faults.proofs.Lines.{flag_is}
use Rattle.table_faults.proofs.table.Table.is_own_ancestor.Goals as goal

pub returns : goal.returns
returns c =
    c.flag_at.ensures
    ∙ flag_is (class_graph (spec_in c.args.self.now)) c.args.self.now.class_cycles.now c.args.k c.requires.class_cycles
