use Rattle.std.proofs.Common.{◌≡◌, map, drop}
use Rattle.text_phases.specs.Built.{unbuilt_in_operations}
use Rattle.vdm_tree.specs.ClassView.{operation_view}
use Rattle.built_forms.proofs.members.unbuilt_in_operations.Given as goal

-- the operations so far are built, so that the rest decides
abbrev pub invariant-loop-operation : goal.invariant-loop-operation
invariant-loop-operation l = unbuilt_in_operations (map operation_view (drop l.operation-index l.operations)) ≡ unbuilt_in_operations (map operation_view l.operations)
