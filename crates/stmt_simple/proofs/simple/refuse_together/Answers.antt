use Rattle.std.proofs.Common.{List, ap, map, sym, ◌∙◌}
use Rattle.vdm_tree.specs.StmtView.{assignment_view}
use Rattle.vdm_tree.specs.declared.target.Assignment.{Assignment}
use Rattle.class_checks.specs.Results.{refusing}
use Rattle.spec_checks.specs.Statements.{done}
use Rattle.spec_checks.specs.Targets.{all_assigned, apart_faults, nothing_owned}
use Rattle.stmt_targets.specs.Below.check_scopes.specs.Told.{first_in}
use Rattle.stmt_targets.specs.Below.check_frames.specs.Meant.{spec_here}
use Rattle.stmt_targets.specs.Below.stmt_scopes.specs.Standing.{stands_here}
use Rattle.stmt_simple.proofs.Begun.{together_begun}
use Rattle.stmt_simple.proofs.Noted.{noted_rest}
use Rattle.stmt_simple.proofs.simple.refuse_together.Goals as goal

pub returns : goal.returns
returns c = λ place.
    noted_rest c.refuse_assignments.result (first_in c.args.refusals.now) (first_in c.refuse_apart.new.refusals) (first_in c.refuse_assignments.new.refusals)
    (apart_faults (spec_here c.args.stands.here) (stands_here c.args.stands) nothing_owned (map assignment_view c.as_slice-assignments.result.now)) _
    (all_assigned (spec_here c.args.stands.here) (stands_here c.args.stands) (map assignment_view c.as_slice-assignments.result.now) done)
    (together_begun (spec_here c.args.stands.here) (stands_here c.args.stands) (map assignment_view c.args.assignments.now.items) place
    ∙ ap (λ (items : List Assignment).
    refusing (apart_faults (spec_here c.args.stands.here) (stands_here c.args.stands) nothing_owned (map assignment_view items))
    (all_assigned (spec_here c.args.stands.here) (stands_here c.args.stands) (map assignment_view items) done)) (sym c.as_slice-assignments.ensures.value))
    c.refuse_apart.ensures c.refuse_assignments.ensures
