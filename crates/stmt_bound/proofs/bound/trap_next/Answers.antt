use Rattle.std.proofs.Common.{ap, sym, ◌∙◌}
use Rattle.expr_tree.specs.View.{pattern_view}
use Rattle.vdm_tree.specs.StmtView.{boxed_stmt}
use Rattle.form_meaning.specs.Forms.{FormTree}
use Rattle.class_checks.specs.Results.{after}
use Rattle.spec_checks.specs.Statements.{check_stmt, inside_pattern}
use Rattle.stmt_pending.specs.Below.check_scopes.specs.Told.{first_in}
use Rattle.stmt_pending.specs.Below.check_frames.specs.Meant.{spec_here}
use Rattle.stmt_pending.specs.Below.stmt_scopes.specs.Refused.{refused}
use Rattle.stmt_pending.specs.Below.stmt_scopes.specs.Standing.{standing_of, stands_here}
use Rattle.stmt_pending.specs.Parts.{refused_pattern}
use Rattle.stmt_bound.proofs.Begun.{trap_begun}
use Rattle.stmt_bound.proofs.bound.trap_next.Goals as goal

pub returns : goal.returns
returns c = λ place.
    let spec = spec_here c.args.stands.here in
    let scope = stands_here c.args.stands in
    let later = first_in c.refuse_pattern.new.refusals in
    ap (refused (first_in c.args.refusals.now)) (trap_begun spec scope (pattern_view c.args.pattern.now.value) (boxed_stmt c.args.handler.now) (boxed_stmt c.args.body.now) place)
    ∙ refused_pattern spec scope.within (pattern_view c.args.pattern.now.value) (first_in c.args.refusals.now) later _ c.in_ok-refuse_pattern.ensures
    ∙ ap (λ (form : FormTree). refused later (after (check_stmt spec (inside_pattern spec scope form (pattern_view c.args.pattern.now.value)) (boxed_stmt c.args.handler.now)) (λ (f : FormTree). check_stmt spec scope (boxed_stmt c.args.body.now)))) (sym c.any.ensures)
    ∙ ap (refused later) (λ i. after (check_stmt spec (sym c.in_ok-inside.ensures i) (boxed_stmt c.args.handler.now)) (λ (f : FormTree). check_stmt spec (sym c.in_ok-kept.ensures i) (boxed_stmt c.args.body.now)))
    ∙ ap (refused later) (λ i. after (check_stmt spec (standing_of c.args.stands c.in_ok-inside.inside) (boxed_stmt c.args.handler.now)) (λ (f : FormTree). sym (c.pending_in-rest.ensures c.args.stands.here.setting c.args.stands.returned.now) i))
    ∙ ap (refused later) (sym (c.then_next.ensures c.args.stands.here.setting c.args.stands.returned.now))
