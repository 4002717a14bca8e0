use Rattle.std.proofs.Common.{◌≡◌, ◌++◌, map, drop}
use Rattle.expr_tree.specs.View.{bind_trees, bind_view}
use Rattle.node_meaning.specs.Choosing.{bound_patterns}
use Rattle.eval_data.specs.Parts.{patterns_at}
use Rattle.search_steps.proofs.gathered.patterns_of.Given as goal

abbrev pub invariant-loop-bind : goal.invariant-loop-bind
invariant-loop-bind l =
    patterns_at l.found.items ++ bound_patterns (bind_trees (map bind_view (drop l.bind-index l.binds)))
    ≡ bound_patterns (bind_trees (map bind_view l.binds))
