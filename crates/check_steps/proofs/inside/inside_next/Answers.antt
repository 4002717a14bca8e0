use Rattle.std.proofs.Common.{Option, ap, ◌∙◌}
use Rattle.std.specs.Borrow.{Bor}
use Rattle.std.specs.declared.alloc.Global.{Global}
use Rattle.std.specs.declared.boxed.Box.{Box}
use Rattle.expr_tree.specs.declared.expr.Expr.{Expr}
use Rattle.class_checks.specs.Expressions.{where_true}
use Rattle.check_calls.specs.Below.check_scopes.specs.Told.{spec_in}
use Rattle.check_frames.specs.Meant.{body_check, maybe_boxed, scope_here}
use Rattle.check_frames.specs.Steps.{onward}
use Rattle.check_steps.specs.Begun.{no_condition}
use Rattle.check_steps.proofs.inside.inside_next.Goals as goal

pub returns-in-None : goal.returns-in-None
returns-in-None c =
    onward c.args.here.setting c.body_next.result _ _ (ap (λ (o : Option (Bor (Box Expr Global))). where_true (spec_in c.args.here.setting) (scope_here c.args.here) (maybe_boxed o) (body_check c.args.here.setting (scope_here c.args.here) c.args.inside.body)) c.in-None.is ∙ no_condition c.args.here.setting (scope_here c.args.here) (body_check c.args.here.setting (scope_here c.args.here) c.args.inside.body)) c.body_next.ensures
