use Rattle.std.proofs.Common.{ap, sym, ◌∙◌}
use Rattle.expr_tree.specs.View.{boxed_view, pattern_view}
use Rattle.vdm_tree.specs.StmtView.{boxed_stmt}
use Rattle.spec_checks.specs.Statements.{check_stmt}
use Rattle.spec_checks.specs.Targets.{StmtScope}
use Rattle.stmt_pending.specs.Below.check_scopes.specs.Told.{first_in}
use Rattle.stmt_pending.specs.Below.check_frames.specs.Meant.{spec_here}
use Rattle.stmt_pending.specs.Below.stmt_scopes.specs.Refused.{refused}
use Rattle.stmt_pending.specs.Below.stmt_scopes.specs.Standing.{stands_here}
use Rattle.stmt_bound.proofs.Begun.{set_begun}
use Rattle.stmt_bound.proofs.loops.set_next.Goals as goal

pub returns : goal.returns
returns c = λ place.
    ap (refused (first_in c.args.refusals.now)) (set_begun (spec_here c.args.stands.here) (stands_here c.args.stands) (pattern_view c.args.pattern.now.value) (boxed_view c.args.set.now) (boxed_stmt c.args.body.now) place)
    ∙ c.in_ok-inside.ensures (λ (s : StmtScope). check_stmt (spec_here c.args.stands.here) s (boxed_stmt c.args.body.now))
    ∙ ap (refused (first_in c.inside_set.new.refusals)) (sym (c.next_in.ensures c.args.stands.here.setting c.args.stands.returned.now))
