use Rattle.spec_table.specs.Tables.{table_spec}
use Rattle.spec_table.proofs.Meaning.{owned_by}
use Rattle.spec_table.proofs.table.ClassTable.own_meant.Goals as goal

pub returns-in-Some-clause-owned : goal.returns-in-Some-clause-owned
returns-in-Some-clause-owned c =
    owned_by (table_spec c.args.self.now) c.args.self.now.fine c.args.ask c.args.owner c.owner.result c.own_member.result c.in-Some.item
    c.own_member.ensures c.in-Some.is c.owner.ensures.number c.owner.ensures.named
