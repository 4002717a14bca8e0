use Rattle.std.proofs.Common.{map}
use Rattle.expr_tree.specs.View.{bind_trees, bind_view}
use Rattle.check_steps.specs.Below.check_patterns.specs.Shown.{local_view, patterns_of}
use Rattle.check_steps.specs.Below.check_frames.specs.Meant.{boxed, scope_here}
use Rattle.check_steps.specs.Below.check_frames.specs.Steps.{onward}
use Rattle.check_steps.specs.Placed.{set_at}
use Rattle.check_series.proofs.binding.set_next.Goals as goal

pub returns : goal.returns
returns c =
    onward c.args.here.setting c.part_of.result _ _ (set_at c.args.here.setting (scope_here c.args.here) (map local_view c.args.rest.found.items) (patterns_of c.args.patterns) (boxed c.args.set) (bind_trees (map bind_view c.args.rest.more.now)) c.args.rest.inside _ c.place_of.ensures) c.part_of.ensures
