use Rattle.std.proofs.Common.{◌∙◌}
use Rattle.graph_cycles.specs.Graphs.{graph_of}
use Rattle.table_faults.specs.Tables.{spec_in}
use Rattle.table_faults.proofs.Lines.{line_has}
use Rattle.table_faults.proofs.table.Table.has_type.Goals as goal

pub returns : goal.returns
returns c =
    c.has_type_in_line.ensures
    ∙ line_has (spec_in c.args.self.now) (graph_of c.args.self.now.lines.now) c.args.name c.args.k c.requires.lines
