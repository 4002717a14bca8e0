use Rattle.std.proofs.Math.Logic.{∥∥₁_elim}
use Rattle.std.specs.Coded.{Coded-set, coded_list}
use Rattle.spec_table.specs.Tables.{table_spec}
use Rattle.vdm_kinds.specs.contracts.member.VarRef as element
use Rattle.spec_table.proofs.table.ClassTable.layout_line.Goals as goal

pub returns : goal.returns
returns c =
    λ l. ∥∥₁_elim c.args.self.now.lays_out (Coded-set (coded_list element.the_row.coded) _ _)
    (λ is. c.layout.ensures (table_spec c.args.self.now) is l)
