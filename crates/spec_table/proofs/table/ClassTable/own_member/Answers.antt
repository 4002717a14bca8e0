use Rattle.std.proofs.Common.{rules, ◌≡◌, ◌∙◌, Some}
use Rattle.spec_table.specs.Tables.{table_spec}
use Rattle.spec_table.proofs.Owning.{own_item}
use Rattle.spec_table.proofs.table.ClassTable.own_member.Goals as goal

pub returns : goal.returns
returns c =
    let class : c.class.result ≡ Some c.in_ok-class.class = search rules in
    let at : c.answer.result ≡ Some c.in_ok-at.at = search rules in
    c.item_at.ensures
    ∙ own_item (table_spec c.args.self.now) c.args.k c.args.ask c.class.result c.in_ok-class.class c.answer.result c.in_ok-at.at
    c.class.ensures c.answer.ensures class at
