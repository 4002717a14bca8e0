use Rattle.std.proofs.Common.{Option, ap, ◌∙◌}
use Rattle.std.specs.declared.alloc.Global.{Global}
use Rattle.std.specs.declared.boxed.Box.{Box}
use Rattle.expr_tree.specs.View.{maybe_view}
use Rattle.expr_tree.specs.declared.expr.Expr.{Expr}
use Rattle.class_checks.specs.Expressions.{others_in}
use Rattle.check_steps.specs.Below.check_scopes.specs.Told.{spec_in}
use Rattle.check_steps.specs.Below.check_frames.specs.Meant.{scope_here}
use Rattle.check_steps.specs.Below.check_frames.specs.Steps.{onward}
use Rattle.check_steps.specs.Begun.{no_others, others_begun}
use Rattle.check_series.proofs.branching.others_next.Goals as goal

abbrev Own : Type 0
Own = Box Expr Global

pub returns-in-Some : goal.returns-in-Some
returns-in-Some c =
    onward c.args.here.setting c.last_next.result _ _ (ap (λ (o : Option Own). others_in (spec_in c.args.here.setting) (scope_here c.args.here) c.args.known (maybe_view o)) c.in-Some.is ∙ others_begun c.args.here.setting (scope_here c.args.here) c.args.known _) c.last_next.ensures

pub returns-in-None : goal.returns-in-None
returns-in-None c =
    ap (λ (o : Option Own). others_in (spec_in c.args.here.setting) (scope_here c.args.here) c.args.known (maybe_view o)) c.in-None.is ∙ no_others c.args.here.setting (scope_here c.args.here) c.args.known
