use Rattle.std.proofs.Common.{sym, ◌∙◌}
use Rattle.vdm_tree.specs.ClassView.{function_view}
use Rattle.class_meaning.specs.Members.{of_function}
use Rattle.table_faults.specs.Tables.{spec_in}
use Rattle.table_faults.proofs.Telling.{item_goes, item_halts, items_end}
use Rattle.table_faults.proofs.table.Table.functions_fault.Goals as goal

pub loop-definition-preserved : goal.loop-definition-preserved
loop-definition-preserved c =
    item_goes (spec_in c.args.self.now) c.args.k of_function function_view c.args.definitions.now c.loop-definition.definition-index
    c.args.seen.now c.loop-definition.seen c.function_fault.new.seen c.definition-item.result c.loop-definition-test.true c.definition-item.is
    c.loop-definition.invariant (sym c.in_default.is ∙ c.in_ok-fault.ensures.fault) c.in_ok-fault.ensures.noted

pub returns-in-Some : goal.returns-in-Some
returns-in-Some c =
    item_halts (spec_in c.args.self.now) c.args.k of_function function_view c.args.definitions.now c.loop-definition.definition-index
    c.args.seen.now c.loop-definition.seen c.function_fault.new.seen c.definition-item.result c.in-Some.fault c.loop-definition-test.true c.definition-item.is
    c.loop-definition.invariant (sym c.in-Some.is ∙ c.in_ok-fault.ensures.fault)

pub returns : goal.returns
returns c =
    items_end (spec_in c.args.self.now) c.args.k of_function function_view c.args.definitions.now c.loop-definition.definition-index
    c.args.seen.now c.loop-definition.seen c.loop-definition-test.false c.loop-definition.invariant
