use Rattle.std.proofs.Math.Logic.{∥∥₁_elim}
use Rattle.std.specs.Coded.{Coded-set, coded_bool}
use Rattle.spec_table.specs.Tables.{table_spec}
use Rattle.spec_table.proofs.Owning.{answer_right, own_at}
use Rattle.spec_table.proofs.table.ClassTable.answer.Goals as goal

pub returns : goal.returns
returns c =
    λ class at. own_at (table_spec c.args.self.now) c.args.self.now.fine c.args.k class c.args.ask c.own.result at
    (∥∥₁_elim c.args.self.now.resolves (Coded-set coded_bool _ _)
    (λ r. answer_right class c.args.ask c.own.result (c.own.ensures (table_spec c.args.self.now) class r at)))
