use Rattle.std.proofs.Common.{map, drop}
use Rattle.vdm_tree.specs.ClassView.{operation_view}
use Rattle.class_meaning.specs.Members.{of_operation}
use Rattle.table_faults.specs.Known.{Reaches}
use Rattle.table_faults.specs.Tables.{spec_in}
use Rattle.table_faults.proofs.table.Table.operations_fault.Given as goal

-- no refusal so far, so that the rest decides
abbrev pub invariant-loop-definition : goal.invariant-loop-definition
invariant-loop-definition l =
    Reaches (spec_in l.self) l.k l.fn.seen l.seen (map of_operation (map operation_view l.definitions)) (map of_operation (map operation_view (drop l.definition-index l.definitions)))
