use Rattle.std.proofs.Common.{sym, ◌∙◌}
use Rattle.vdm_tree.specs.StmtView.{boxed_stmt}
use Rattle.form_meaning.specs.Forms.{FormTree}
use Rattle.class_checks.specs.Results.{after}
use Rattle.spec_checks.specs.Statements.{check_stmt}
use Rattle.stmt_pending.specs.Below.check_frames.specs.Meant.{spec_here}
use Rattle.stmt_pending.specs.Below.stmt_scopes.specs.Standing.{standing_of, stands_here}
use Rattle.stmt_chosen.proofs.Begun.{always_begun}
use Rattle.stmt_chosen.proofs.chosen.always_next.Goals as goal

pub returns : goal.returns
returns c = λ place.
    let spec = spec_here c.args.stands.here in
    always_begun spec (stands_here c.args.stands) (boxed_stmt c.args.last.now) (boxed_stmt c.args.body.now) place
    ∙ (λ i. after (check_stmt spec (sym c.in_ok-kept-2.ensures i) (boxed_stmt c.args.last.now)) (λ (form : FormTree). check_stmt spec (sym c.in_ok-kept.ensures i) (boxed_stmt c.args.body.now)))
    ∙ (λ i. after (check_stmt spec (standing_of c.args.stands c.in_ok-kept-2.field-0) (boxed_stmt c.args.last.now)) (λ (form : FormTree). sym (c.pending_in-rest.ensures c.args.stands.here.setting c.args.stands.returned.now) i))
    ∙ sym (c.then_next.ensures c.args.stands.here.setting c.args.stands.returned.now)
