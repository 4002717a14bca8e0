use Rattle.std.proofs.Common.{◌≡◌, drop}
use Rattle.type_tree.specs.TypeView.{type_trees, type_views}
use Rattle.table_faults.specs.Firsts.{types_fault}
use Rattle.table_faults.specs.Tables.{spec_in}
use Rattle.table_faults.proofs.table.Table.+type_fault.Given as goal

-- the names so far are known, so that the other types decide
abbrev pub invariant-loop-part : goal.invariant-loop-part
invariant-loop-part l =
    types_fault (spec_in l.self) l.k (type_trees (type_views (drop l.part-index l.part-items)))
    ≡ types_fault (spec_in l.self) l.k (type_trees (type_views l.part-items))
