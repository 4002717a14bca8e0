use Rattle.std.proofs.Common.{map, sym}
use Rattle.expr_tree.specs.View.{bind_trees, bind_view}
use Rattle.class_checks.specs.Expressions.{bound_by}
use Rattle.check_frames.specs.Below.check_scopes.specs.Told.{spec_in}
use Rattle.check_frames.specs.Below.check_patterns.specs.Shown.{local_view}
use Rattle.check_frames.specs.Meant.{inside_of, scope_here}
use Rattle.check_frames.specs.Steps.{onward}
use Rattle.check_bound.proofs.inside.within_binds.Goals as goal

pub returns : goal.returns
returns c =
    onward c.args.here.setting c.binds_next.result _ _
    (λ i. bound_by (spec_in c.args.here.setting) (scope_here c.args.here) (map local_view (sym c.new.ensures.items i)) (bind_trees (map bind_view (sym c.as_slice.ensures.value i))) (inside_of c.args.here.setting (scope_here c.args.here) (record { condition = c.args.condition; body = c.args.body })))
    c.binds_next.ensures
