use Rattle.target_steps.specs.Below.check_scopes.specs.Told.{first_in}
use Rattle.target_steps.specs.Below.check_frames.specs.Meant.{spec_here}
use Rattle.target_steps.specs.Below.stmt_scopes.specs.Standing.{stands_here}
use Rattle.stmt_targets.proofs.Assigning.{assigned_turn}
use Rattle.stmt_targets.proofs.assigned.refuse_assignments.Goals as goal

pub loop-assignment-preserved : goal.loop-assignment-preserved
loop-assignment-preserved c =
    assigned_turn (spec_here c.args.stands.here) (stands_here c.args.stands) c.args.assignments.now c.loop-assignment.assignment-index c.assignment-item.result
    (first_in c.loop-assignment.refusals) (first_in c.refuse_assigned.new.refusals) _ c.assignment-item.is c.loop-assignment-test.true
    c.in_ok-refuse_assigned.ensures c.loop-assignment.invariant
