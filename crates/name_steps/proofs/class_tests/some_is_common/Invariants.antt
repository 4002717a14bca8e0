use Rattle.std.proofs.Common.{◌≡◌, ◌&&◌, drop}
use Rattle.std.specs.List.{list_any}
use Rattle.vdm_kinds.specs.declared.name.Name.{Name}
use Rattle.spec_table.specs.Tables.{table_spec}
use Rattle.node_meaning.specs.ClassTests.{is_base_of}
use Rattle.name_steps.proofs.class_tests.some_is_common.Given as goal

-- what is left has one exactly where there is one
abbrev pub invariant-loop-class : goal.invariant-loop-class
invariant-loop-class l =
    list_any (λ (class : Name). is_base_of (table_spec l.table) class l.own && is_base_of (table_spec l.table) class l.other) (drop l.class-index l.classes)
    ≡ list_any (λ (class : Name). is_base_of (table_spec l.table) class l.own && is_base_of (table_spec l.table) class l.other) l.classes
