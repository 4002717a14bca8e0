use Rattle.std.proofs.Common.{ap, sym, ◌∙◌}
use Rattle.expr_tree.specs.View.{pattern_trees, pattern_views}
use Rattle.vdm_tree.specs.StmtView.{StmtCaseView, boxed_stmt}
use Rattle.class_checks.specs.Expressions.{givens_each}
use Rattle.class_checks.specs.Patterns.{patterns_faults}
use Rattle.spec_checks.specs.Targets.{StmtScope}
use Rattle.stmt_pending.specs.Below.check_scopes.specs.Told.{first_in, types_in}
use Rattle.stmt_pending.specs.Below.check_frames.specs.Meant.{spec_here}
use Rattle.stmt_pending.specs.Below.stmt_scopes.specs.Before.{before-givens_each, refused_before}
use Rattle.stmt_pending.specs.Below.stmt_scopes.specs.Refused.{refused, refused_refusing}
use Rattle.stmt_pending.specs.Below.stmt_scopes.specs.Standing.{stands_here}
use Rattle.stmt_pending.specs.Meant.{behind_check, bodies_check}
use Rattle.stmt_chosen.proofs.Begun.{case_begun}
use Rattle.stmt_chosen.proofs.alternatives.case_next.Goals as goal

pub returns : goal.returns
returns c =
    let spec = spec_here c.args.stands.here in
    let scope = stands_here c.args.stands in
    let patterns = pattern_trees (pattern_views c.args.case.now.patterns.items) in
    let case : StmtCaseView = record { patterns = pattern_views c.args.case.now.patterns.items; body = boxed_stmt c.args.case.now.body } in
    let rest = behind_check c.args.stands.here.setting scope case c.args.all in
    let middle = first_in c.patterns_faults.new.refusals in
    let later = first_in c.refuse_givens.new.refusals in
    ap (refused (first_in c.args.refusals.now)) (case_begun c.args.stands.here.setting scope case c.args.all)
    ∙ refused_refusing (first_in c.args.refusals.now) middle (patterns_faults spec (types_in c.args.stands.here.setting) patterns) (givens_each spec scope.within patterns rest) c.in_ok-patterns_faults.ensures
    ∙ refused_before (givens_each spec scope.within patterns) (before-givens_each spec scope.within patterns) middle later rest c.in_ok-refuse_givens.ensures
    ∙ ap (refused later) c.in_ok-bodies.ensures
    ∙ ap (λ (s : StmtScope). refused later (bodies_check c.args.stands.here.setting s c.in_ok-bodies.bodies)) (sym c.in_ok-standing.ensures)
