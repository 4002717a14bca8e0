use Rattle.std.proofs.Common.{ap, map, sym, ◌∙◌}
use Rattle.expr_tree.specs.View.{boxed_view}
use Rattle.vdm_tree.specs.StmtView.{boxed_stmt, maybe_stmt, stmt_branch_trees, stmt_branch_view}
use Rattle.form_meaning.specs.Forms.{FormTree}
use Rattle.class_checks.specs.Operators.{truth}
use Rattle.class_checks.specs.Results.{after}
use Rattle.spec_checks.specs.Statements.{check_stmt, stmt_branches}
use Rattle.stmt_pending.specs.Below.check_scopes.specs.Told.{first_in}
use Rattle.stmt_pending.specs.Below.check_frames.specs.Meant.{spec_here}
use Rattle.stmt_pending.specs.Below.stmt_scopes.specs.Refused.{refused}
use Rattle.stmt_pending.specs.Below.stmt_scopes.specs.Standing.{stands_here}
use Rattle.stmt_pending.specs.Meant.{last_check}
use Rattle.stmt_pending.specs.Parts.{refused_wanting}
use Rattle.stmt_chosen.proofs.Begun.{branch_begun}
use Rattle.stmt_chosen.proofs.branches.branch_next.Goals as goal

pub returns : goal.returns
returns c =
    let spec = spec_here c.args.stands.here in
    let scope = stands_here c.args.stands in
    let body = boxed_stmt c.args.body.now in
    let more = stmt_branch_trees (map stmt_branch_view c.args.branches.now) in
    let otherwise = maybe_stmt c.args.otherwise.now in
    let later = first_in c.refuse_wanting.new.refusals in
    ap (refused (first_in c.args.refusals.now)) (branch_begun spec scope (boxed_view c.args.condition.now) body more otherwise)
    ∙ refused_wanting spec scope truth (boxed_view c.args.condition.now) (first_in c.args.refusals.now) later
    (after (check_stmt spec scope body) (λ (form : FormTree). stmt_branches spec scope more (last_check spec scope otherwise))) c.in_ok-refuse_wanting.ensures
    ∙ ap (refused later) (λ i. after (check_stmt spec (sym c.in_ok-kept.ensures i) body) (λ (form : FormTree). stmt_branches spec (sym c.in_ok-standing.ensures i) more (last_check spec (sym c.in_ok-standing.ensures i) otherwise)))
    ∙ ap (refused later) (sym (c.then_next.ensures c.args.stands.here.setting c.args.stands.returned.now))
