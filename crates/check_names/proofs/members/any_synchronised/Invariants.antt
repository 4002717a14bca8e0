use Rattle.std.proofs.Common.{◌≡◌, drop}
use Rattle.std.specs.List.{list_any}
use Rattle.vdm_kinds.specs.declared.name.Name.{Name}
use Rattle.class_checks.specs.Members.{has_synchronised_of}
use Rattle.check_scopes.specs.Below.spec_table.specs.Meanings.{class_named}
use Rattle.check_scopes.specs.Below.spec_table.specs.Tables.{table_spec}
use Rattle.check_names.proofs.members.any_synchronised.Given as goal

abbrev pub invariant-loop-class : goal.invariant-loop-class
invariant-loop-class l =
    list_any (λ (class : Name). has_synchronised_of l.name (class_named (table_spec l.table) class)) (drop l.class-index l.line)
    ≡ list_any (λ (class : Name). has_synchronised_of l.name (class_named (table_spec l.table) class)) l.line
