use Rattle.std.proofs.Common.{◌≡◌, drop}
use Rattle.type_tree.specs.TypeView.{type_trees, type_views}
use Rattle.table_faults.specs.Firsts.{types_fault}
use Rattle.table_faults.specs.Tables.{spec_in}
use Rattle.table_faults.proofs.table.Table.types_fault.Given as goal

-- the names so far are known, so that the other types decide
abbrev pub invariant-loop-declared : goal.invariant-loop-declared
invariant-loop-declared l =
    types_fault (spec_in l.self) l.k (type_trees (type_views (drop l.declared-index l.types)))
    ≡ types_fault (spec_in l.self) l.k (type_trees (type_views l.types))
