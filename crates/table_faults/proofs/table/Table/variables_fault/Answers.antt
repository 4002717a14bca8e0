use Rattle.std.proofs.Common.{◌+◌, drop, sym, ◌∙◌}
use Rattle.class_meaning.specs.Members.{of_variable}
use Rattle.vdm_tree.specs.ClassView.{variable_view}
use Rattle.table_faults.specs.Known.{variables_of}
use Rattle.table_faults.specs.Tables.{spec_in}
use Rattle.table_faults.proofs.Telling.{goes, variable_next}
use Rattle.table_faults.proofs.table.Table.variables_fault.Goals as goal

pub loop-item-preserved : goal.loop-item-preserved
loop-item-preserved c =
    let items = c.args.items.now in
    let i = c.loop-item.item-index in
    let v = c.in-Variable.variable in
    goes (spec_in c.args.self.now) c.args.k c.args.seen.now c.loop-item.seen c.variable_fault.new.seen
    (variables_of items) (variables_of (drop i items)) (variables_of (drop (i + 1) items)) (of_variable (variable_view v)) c.loop-item.invariant
    (variable_next items i c.item-item.result c.loop-item-test.true c.item-item.is v c.in-Variable.is)
    (sym c.in_default-2.is ∙ c.in_ok-fault.ensures.fault) c.in_ok-fault.ensures.noted
