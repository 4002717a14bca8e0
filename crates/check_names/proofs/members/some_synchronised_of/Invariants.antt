use Rattle.std.proofs.Common.{◌≡◌, map, drop}
use Rattle.std.specs.List.{list_any}
use Rattle.class_checks.specs.Members.{is_synchronised}
use Rattle.vdm_tree.specs.ClassView.{class_view, operation_view}
use Rattle.check_names.proofs.members.some_synchronised_of.Given as goal

abbrev pub invariant-loop-operation : goal.invariant-loop-operation
invariant-loop-operation l =
    list_any (is_synchronised l.name (class_view l.class)) (map operation_view (drop l.operation-index l.operations))
    ≡ list_any (is_synchronised l.name (class_view l.class)) (map operation_view l.operations)
