use Rattle.std.proofs.Common.{◌≡◌, map, drop}
use Rattle.vdm_tree.specs.ClassView.{class_view}
use Rattle.table_faults.specs.Firsts.{classes_fault, no_names}
use Rattle.table_faults.specs.Known.{known_names}
use Rattle.table_faults.specs.Tables.{spec_in}
use Rattle.table_faults.proofs.table.Table.classes_fault.Given as goal

-- no refusal so far, so that the other classes decide
abbrev pub invariant-loop-k : goal.invariant-loop-k
invariant-loop-k l =
    classes_fault (spec_in l.self) (known_names l.earlier) l.k (map class_view (drop l.k l.definitions))
    ≡ classes_fault (spec_in l.self) no_names 0 (map class_view l.definitions)
