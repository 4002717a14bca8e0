use Rattle.std.proofs.Common.{sym, ◌∙◌}
use Rattle.vdm_kinds.specs.declared.name.Name.{Name}
use Rattle.form_meaning.specs.Forms.{FormTree}
use Rattle.class_checks.specs.Results.{after}
use Rattle.spec_checks.specs.Statements.{check_stmt}
use Rattle.stmt_pending.specs.Below.check_frames.specs.Meant.{at, spec_here}
use Rattle.stmt_pending.specs.Below.stmt_scopes.specs.Standing.{is_held, stands_here}
use Rattle.stmt_pending.specs.Meant.{bodies_check, boxed, scoped}
use Rattle.stmt_chosen.proofs.Begun.{body_begun}
use Rattle.stmt_chosen.proofs.alternatives.body_next.Goals as goal

pub returns : goal.returns
returns c =
    let setting = c.args.stands.here.setting in
    let scope = stands_here c.args.stands in
    body_begun setting scope (at setting c.args.scope) c.args.bodies
    ∙ (λ i. after
    (check_stmt (spec_here c.args.stands.here) (scoped scope (λ (name : Name). is_held (sym c.in_ok-copy.ensures i name)) (at setting c.args.scope)) (boxed c.args.bodies.body))
    (λ (form : FormTree). bodies_check setting (sym c.in_ok-standing.ensures i) c.args.bodies))
    ∙ sym (c.then_next.ensures setting c.args.stands.returned.now)
