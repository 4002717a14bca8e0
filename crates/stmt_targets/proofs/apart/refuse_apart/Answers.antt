use Rattle.target_steps.specs.Below.check_scopes.specs.Told.{first_in}
use Rattle.target_steps.specs.Below.check_frames.specs.Meant.{spec_here}
use Rattle.target_steps.specs.Below.stmt_scopes.specs.Standing.{stands_here}
use Rattle.stmt_targets.specs.Naming.{owned_view}
use Rattle.stmt_targets.proofs.Assigning.{apart_turn}
use Rattle.stmt_targets.proofs.apart.refuse_apart.Goals as goal

pub loop-assignment-preserved : goal.loop-assignment-preserved
loop-assignment-preserved c =
    apart_turn (spec_here c.args.stands.here) (stands_here c.args.stands) c.args.assignments.now c.loop-assignment.assignment-index c.assignment-item.result
    (owned_view c.loop-assignment.first) (owned_view c.refuse_beside-first.result) (first_in c.loop-assignment.refusals) (first_in c.refuse_beside-first.new.refusals) _
    c.assignment-item.is c.loop-assignment-test.true c.refuse_beside-first.ensures.apart c.refuse_beside-first.ensures.first c.loop-assignment.invariant
