use Rattle.std.proofs.Common.{map, drop}
use Rattle.vdm_tree.specs.ClassView.{function_view}
use Rattle.class_meaning.specs.Members.{of_function}
use Rattle.table_faults.specs.Known.{Reaches}
use Rattle.table_faults.specs.Tables.{spec_in}
use Rattle.table_faults.proofs.table.Table.functions_fault.Given as goal

-- no refusal so far, so that the rest decides
abbrev pub invariant-loop-definition : goal.invariant-loop-definition
invariant-loop-definition l =
    Reaches (spec_in l.self) l.k l.fn.seen l.seen (map of_function (map function_view l.definitions)) (map of_function (map function_view (drop l.definition-index l.definitions)))
