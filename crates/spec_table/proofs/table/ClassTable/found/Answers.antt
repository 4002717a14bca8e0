use Rattle.std.proofs.Math.Logic.{∥∥₁_elim}
use Rattle.std.specs.Coded.{Coded-set}
use Rattle.spec_table.specs.Tables.{table_spec}
use Rattle.class_meaning.specs.contracts.found.Found as found
use Rattle.spec_table.proofs.table.ClassTable.found.Goals as goal

pub returns : goal.returns
returns c =
    ∥∥₁_elim c.args.self.now.resolves (Coded-set found.the_row.coded _ _) (λ r. c.found.ensures (table_spec c.args.self.now) r)
