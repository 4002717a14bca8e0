use Rattle.std.proofs.Common.{◌≡◌, map, drop}
use Rattle.vdm_tree.specs.StmtView.{assignment_view}
use Rattle.class_checks.specs.Results.{first_among}
use Rattle.spec_checks.specs.Targets.{apart_faults, nothing_owned}
use Rattle.target_steps.specs.Below.check_scopes.specs.Told.{first_in}
use Rattle.target_steps.specs.Below.check_frames.specs.Meant.{spec_here}
use Rattle.target_steps.specs.Below.stmt_scopes.specs.Standing.{stands_here}
use Rattle.stmt_targets.specs.Naming.{owned_view}
use Rattle.stmt_targets.proofs.apart.refuse_apart.Given as goal

abbrev pub invariant-loop-assignment : goal.invariant-loop-assignment
invariant-loop-assignment l =
    first_among (first_in l.refusals) (apart_faults (spec_here l.stands.here) (stands_here l.stands) (owned_view l.first) (map assignment_view (drop l.assignment-index l.assignments)))
    ≡ first_among (first_in l.fn.refusals) (apart_faults (spec_here l.stands.here) (stands_here l.stands) nothing_owned (map assignment_view l.assignments))
