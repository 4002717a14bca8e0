use Rattle.std.proofs.Common.{ap, ◌∙◌}
use Rattle.expr_tree.specs.View.{boxed_view}
use Rattle.vdm_tree.specs.StmtView.{boxed_stmt}
use Rattle.class_checks.specs.Operators.{truth}
use Rattle.spec_checks.specs.Statements.{check_stmt}
use Rattle.stmt_pending.specs.Below.check_scopes.specs.Told.{first_in}
use Rattle.stmt_pending.specs.Below.check_frames.specs.Meant.{spec_here}
use Rattle.stmt_pending.specs.Below.stmt_scopes.specs.Refused.{refused}
use Rattle.stmt_pending.specs.Below.stmt_scopes.specs.Standing.{standing_of, stands_here}
use Rattle.stmt_pending.specs.Parts.{refused_wanting}
use Rattle.stmt_pending.specs.Steps.{next_inside}
use Rattle.stmt_chosen.proofs.Begun.{while_begun}
use Rattle.stmt_chosen.proofs.chosen.while_next.Goals as goal

pub returns : goal.returns
returns c = λ place.
    let spec = spec_here c.args.stands.here in
    let scope = stands_here c.args.stands in
    let body = boxed_stmt c.args.body.now in
    let later = first_in c.refuse_wanting.new.refusals in
    next_inside c.args.stands.here.setting c.args.stands.returned.now c.next_in.result scope (standing_of c.args.stands c.in_ok-kept.field-0) body later _
    (ap (refused (first_in c.args.refusals.now)) (while_begun spec scope (boxed_view c.args.condition.now) body place)
    ∙ refused_wanting spec scope truth (boxed_view c.args.condition.now) (first_in c.args.refusals.now) later (check_stmt spec scope body) c.in_ok-refuse_wanting.ensures)
    c.in_ok-kept.ensures
    (c.next_in.ensures c.args.stands.here.setting c.args.stands.returned.now)
