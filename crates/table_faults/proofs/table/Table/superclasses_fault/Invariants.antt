use Rattle.std.proofs.Common.{◌≡◌, drop}
use Rattle.table_faults.specs.Firsts.{superclasses_fault}
use Rattle.table_faults.specs.Tables.{spec_in}
use Rattle.table_faults.proofs.table.Table.superclasses_fault.Given as goal

-- those so far are classes, so that the others decide
abbrev pub invariant-loop-superclass : goal.invariant-loop-superclass
invariant-loop-superclass l =
    superclasses_fault (spec_in l.self) (drop l.superclass-index l.superclasses) ≡ superclasses_fault (spec_in l.self) l.superclasses
