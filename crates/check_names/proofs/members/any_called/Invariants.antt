use Rattle.std.proofs.Common.{◌≡◌, drop}
use Rattle.std.specs.List.{list_any}
use Rattle.vdm_kinds.specs.declared.name.Name.{Name}
use Rattle.class_checks.specs.Callees.{has_called}
use Rattle.check_scopes.specs.Below.spec_table.specs.Meanings.{class_named}
use Rattle.check_scopes.specs.Below.spec_table.specs.Tables.{table_spec}
use Rattle.check_names.proofs.members.any_called.Given as goal

abbrev pub invariant-loop-class : goal.invariant-loop-class
invariant-loop-class l =
    list_any (λ (class : Name). has_called l.name (class_named (table_spec l.table) class)) (drop l.class-index l.line)
    ≡ list_any (λ (class : Name). has_called l.name (class_named (table_spec l.table) class)) l.line
