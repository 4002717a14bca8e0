use Rattle.std.proofs.Common.{sym}
use Rattle.expr_tree.specs.View.{view_of}
use Rattle.class_checks.specs.Expressions.{check}
use Rattle.class_checks.specs.Results.{after}
use Rattle.check_patterns.specs.Below.check_scopes.specs.Told.{scope_at, spec_in}
use Rattle.check_frames.specs.Meant.{step_check}
use Rattle.check_frames.proofs.next.Next.part.Goals as goal

pub returns : goal.returns
returns c = λ i.
    after (check (spec_in c.args.here.setting) (scope_at c.args.here.setting (sym c.in_ok-scope.ensures i)) (view_of c.args.part.now))
    (step_check c.args.here.setting (scope_at c.args.here.setting (sym c.in_ok-locals.ensures i)) c.args.step)
