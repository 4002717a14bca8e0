use Rattle.std.proofs.Common.{None, [], ap, map, sym, ◌∙◌}
use Rattle.expr_tree.specs.View.{bind_trees, bind_view}
use Rattle.class_checks.specs.Expressions.{bound_by}
use Rattle.check_frames.specs.Below.check_scopes.specs.Told.{spec_in}
use Rattle.check_frames.specs.Meant.{inside_of, scope_here}
use Rattle.check_frames.specs.Steps.{onward}
use Rattle.check_frames.specs.declared.inside.Body.{Body}
use Rattle.check_bound.proofs.Begun.{for_all_begun}
use Rattle.check_bound.proofs.inside.for_all_next.Goals as goal

pub returns : goal.returns
returns c =
    λ place. onward c.args.here.setting c.within_binds.result _ _
    (for_all_begun c.args.here.setting (scope_here c.args.here) (bind_trees (map bind_view c.args.binds.now.items)) c.args.condition place
    ∙ ap (λ (b : Body). bound_by (spec_in c.args.here.setting) (scope_here c.args.here) [] (bind_trees (map bind_view c.args.binds.now.items)) (inside_of c.args.here.setting (scope_here c.args.here) (record { condition = None; body = b }))) (sym c.under.ensures))
    c.within_binds.ensures
