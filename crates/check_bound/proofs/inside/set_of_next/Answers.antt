use Rattle.std.proofs.Common.{ap, map, sym, ◌∙◌}
use Rattle.abstract_syntax.specs.Expressions.{MaybeExpr, set_comprehension}
use Rattle.expr_tree.specs.View.{bind_trees, bind_view}
use Rattle.class_checks.specs.Expressions.{check}
use Rattle.check_frames.specs.Below.check_scopes.specs.Told.{spec_in}
use Rattle.check_frames.specs.Meant.{boxed, scope_here}
use Rattle.check_frames.specs.Steps.{onward}
use Rattle.check_bound.proofs.Begun.{maybe_same, set_of_begun}
use Rattle.check_bound.proofs.inside.set_of_next.Goals as goal

pub returns : goal.returns
returns c =
    λ place. onward c.args.here.setting c.within_binds.result _ _
    (ap (λ (o : MaybeExpr). check (spec_in c.args.here.setting) (scope_here c.args.here) (set_comprehension (boxed c.args.element) (bind_trees (map bind_view c.args.binds.now.items)) o place)) (sym (maybe_same c.args.condition.now c.as_ref.result c.as_ref.ensures.value))
    ∙ set_of_begun c.args.here.setting (scope_here c.args.here) c.args.element (bind_trees (map bind_view c.args.binds.now.items)) c.as_ref.result place)
    c.within_binds.ensures
