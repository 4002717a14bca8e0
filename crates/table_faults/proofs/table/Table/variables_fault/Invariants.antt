use Rattle.std.proofs.Common.{drop}
use Rattle.table_faults.specs.Known.{Reaches}
use Rattle.table_faults.specs.Tables.{spec_in}
use Rattle.table_faults.specs.Known.{variables_of}
use Rattle.table_faults.proofs.table.Table.variables_fault.Given as goal

-- no refusal so far, so that the rest decides
abbrev pub invariant-loop-item : goal.invariant-loop-item
invariant-loop-item l = Reaches (spec_in l.self) l.k l.fn.seen l.seen (variables_of l.items) (variables_of (drop l.item-index l.items))
