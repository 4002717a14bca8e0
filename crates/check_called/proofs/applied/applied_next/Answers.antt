use Rattle.std.proofs.Common.{[], length, ◌∙◌}
use Rattle.expr_tree.specs.View.{expr_trees, views_of}
use Rattle.class_checks.specs.Expressions.{check, listed}
use Rattle.class_checks.specs.Shapes.{ShapeTree}
use Rattle.check_steps.specs.Below.check_scopes.specs.Told.{first_in, spec_in}
use Rattle.check_steps.specs.Below.check_frames.specs.Meant.{boxed, scope_here}
use Rattle.check_steps.specs.Below.check_frames.specs.Steps.{told_onward}
use Rattle.check_called.proofs.Called.{apply_begun}
use Rattle.check_called.proofs.applied.applied_next.Goals as goal

pub returns : goal.returns
returns c =
    told_onward c.args.here.setting c.head_next.result (first_in c.args.refusals.now) (first_in c.head_next.new.refusals) _ _
    (apply_begun c.args.here.setting (scope_here c.args.here) (boxed c.args.applied) c.args.arguments c.args.place
    ∙ c.head_of.ensures (spec_in c.args.here.setting) (scope_here c.args.here) (check (spec_in c.args.here.setting) (scope_here c.args.here) (boxed c.args.applied)) (length c.args.arguments.now) c.args.place
    (λ (shape : ShapeTree). listed (spec_in c.args.here.setting) (scope_here c.args.here) shape [] (expr_trees (views_of c.args.arguments.now))))
    c.head_next.ensures
