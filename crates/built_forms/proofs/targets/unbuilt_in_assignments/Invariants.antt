use Rattle.std.proofs.Common.{◌≡◌, map, drop}
use Rattle.text_phases.specs.Built.{unbuilt_in_assignments}
use Rattle.vdm_tree.specs.StmtView.{assignment_view}
use Rattle.built_forms.proofs.targets.unbuilt_in_assignments.Given as goal

-- the assignments so far are built, so that the rest decides
abbrev pub invariant-loop-assignment : goal.invariant-loop-assignment
invariant-loop-assignment l = unbuilt_in_assignments (map assignment_view (drop l.assignment-index l.assignments)) ≡ unbuilt_in_assignments (map assignment_view l.assignments)
