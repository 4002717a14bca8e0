use Rattle.std.proofs.Common.{ap, map, sym, ◌∙◌}
use Rattle.expr_tree.specs.View.{pattern_view}
use Rattle.vdm_tree.specs.StmtView.{boxed_stmt, handler_trees, handler_view}
use Rattle.form_meaning.specs.Forms.{FormTree}
use Rattle.class_checks.specs.Results.{after}
use Rattle.spec_checks.specs.Statements.{check_stmt, handlers_in, inside_pattern}
use Rattle.stmt_pending.specs.Below.check_scopes.specs.Told.{first_in}
use Rattle.stmt_pending.specs.Below.check_frames.specs.Meant.{spec_here}
use Rattle.stmt_pending.specs.Below.stmt_scopes.specs.Refused.{refused}
use Rattle.stmt_pending.specs.Below.stmt_scopes.specs.Standing.{stands_here}
use Rattle.stmt_pending.specs.Parts.{refused_pattern}
use Rattle.stmt_chosen.proofs.Begun.{handler_begun}
use Rattle.stmt_chosen.proofs.handlers.handler_next.Goals as goal

pub returns : goal.returns
returns c =
    let spec = spec_here c.args.stands.here in
    let scope = stands_here c.args.stands in
    let pattern = pattern_view c.args.handler.now.pattern.value in
    let handled = boxed_stmt c.args.handler.now.body in
    let more = handler_trees (map handler_view c.args.handlers.now) in
    let body = boxed_stmt c.args.body.now in
    let later = first_in c.refuse_pattern.new.refusals in
    ap (refused (first_in c.args.refusals.now)) (handler_begun spec scope (record { pattern = pattern; body = handled }) more body)
    ∙ refused_pattern spec scope.within pattern (first_in c.args.refusals.now) later _ c.in_ok-refuse_pattern.ensures
    ∙ ap (λ (form : FormTree). refused later (after (check_stmt spec (inside_pattern spec scope form pattern) handled) (λ (f : FormTree). handlers_in spec scope more (check_stmt spec scope body)))) (sym c.any.ensures)
    ∙ ap (refused later) (λ i. after (check_stmt spec (sym c.in_ok-inside.ensures i) handled) (λ (f : FormTree). handlers_in spec (sym c.in_ok-standing.ensures i) more (check_stmt spec (sym c.in_ok-standing.ensures i) body)))
    ∙ ap (refused later) (sym (c.then_next.ensures c.args.stands.here.setting c.args.stands.returned.now))
