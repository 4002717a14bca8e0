use Rattle.std.proofs.Common.{◌≡◌, map, drop}
use Rattle.expr_tree.specs.TypeDefView.{field_view}
use Rattle.table_faults.specs.Firsts.{fields_fault, no_names}
use Rattle.table_faults.specs.Known.{known_names}
use Rattle.table_faults.specs.Tables.{spec_in}
use Rattle.table_faults.proofs.table.Table.fields_fault.Given as goal

-- no refusal so far, so that the other fields decide
abbrev pub invariant-loop-field : goal.invariant-loop-field
invariant-loop-field l =
    fields_fault (spec_in l.self) l.k (known_names l.earlier) (map field_view (drop l.field-index l.fields))
    ≡ fields_fault (spec_in l.self) l.k no_names (map field_view l.fields)
