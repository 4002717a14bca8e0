use Rattle.std.proofs.Common.{sym, ◌∙◌}
use Rattle.vdm_tree.specs.ClassView.{class_view}
use Rattle.table_faults.specs.Tables.{spec_in}
use Rattle.table_faults.proofs.Lines.{own_is}
use Rattle.table_faults.proofs.table.Table.has_own_type.Goals as goal

pub returns-in-Some : goal.returns-in-Some
returns-in-Some c =
    let class = class_view c.in-Some.field-0.now in
    c.is_some.ensures
    ∙ own_is (spec_in c.args.self.now) c.args.name c.args.k class c.own.result (sym c.in-Some.ensures)
    (c.own.ensures (spec_in c.args.self.now) class c.requires.names (sym c.in-Some.ensures))
