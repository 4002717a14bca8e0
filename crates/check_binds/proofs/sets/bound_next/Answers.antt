use Rattle.std.proofs.Common.{map, refl}
use Rattle.expr_tree.specs.View.{bind_trees, bind_view}
use Rattle.shared_names.specs.Maps.{held}
use Rattle.check_steps.specs.Below.check_patterns.specs.Shown.{local_view, patterns_of}
use Rattle.check_steps.specs.Below.check_frames.specs.Steps.{onward}
use Rattle.check_binds.proofs.Bracketed.{bound_first}
use Rattle.check_binds.proofs.sets.bound_next.Goals as goal

pub returns : goal.returns
returns c =
    onward c.args.here.setting c.givens_next.result _ _
    (bound_first c.args.here.setting (held c.args.here.locals.now) (patterns_of c.args.patterns) (map local_view c.args.rest.found.items) (map local_view c.in_ok-found.found.items)
    (bind_trees (map bind_view c.args.rest.more.now)) c.args.rest.inside c.args.form (held c.in_ok-locals.locals) _ _
    c.in_ok-exprs.ensures c.in_ok-found.ensures c.in_ok-locals.ensures refl)
    c.givens_next.ensures
