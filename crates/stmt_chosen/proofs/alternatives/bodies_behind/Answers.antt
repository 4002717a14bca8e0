use Rattle.std.proofs.Common.{List, ap, sym, ◌∙◌}
use Rattle.vdm_kinds.specs.declared.name.Name.{Name}
use Rattle.expr_tree.specs.View.{pattern_views}
use Rattle.vdm_tree.specs.StmtView.{StmtCaseView, boxed_stmt}
use Rattle.spec_checks.specs.Targets.{hidden_by}
use Rattle.stmt_pending.specs.Below.stmt_scopes.specs.Standing.{declared_in, stands_here}
use Rattle.stmt_pending.specs.Meant.{bodies_in}
use Rattle.stmt_chosen.proofs.Begun.{behind_begun}
use Rattle.stmt_chosen.proofs.alternatives.bodies_behind.Goals as goal

pub returns : goal.returns
returns c =
    let scope = stands_here c.args.stands in
    let case : StmtCaseView = record { patterns = pattern_views c.args.case.now.patterns.items; body = boxed_stmt c.args.case.now.body } in
    behind_begun c.args.stands.here.setting scope case c.args.all
    ∙ (λ i. bodies_in c.args.stands.here.setting scope
    (sym (c.in_ok-declared.ensures ∙ ap (λ (names : List Name). hidden_by names (declared_in c.args.stands.declared.now)) (c.as_slice.ensures.value ∙ c.in_ok-names.ensures)) i)
    case.body (sym c.in_ok-scopes.ensures i) c.args.all)
