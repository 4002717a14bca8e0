use Rattle.std.proofs.Common.{◌≡◌, drop, option_map}
use Rattle.std.specs.List.{find}
use Rattle.spec_table.specs.Members.{has_named, named_operation}
use Rattle.spec_table.specs.Tables.{table_spec}
use Rattle.spec_table.proofs.table.ClassTable.first_with.Given as goal

abbrev pub invariant-loop-class : goal.invariant-loop-class
invariant-loop-class l =
    option_map (named_operation l.name l.arity) (find (has_named (table_spec l.self) l.name l.arity) (drop l.class-index l.classes))
    ≡ option_map (named_operation l.name l.arity) (find (has_named (table_spec l.self) l.name l.arity) l.classes)
