use Rattle.std.proofs.Common.{◌≡◌, ◌++◌, map, drop}
use Rattle.expr_tree.specs.View.{bind_trees, bind_view}
use Rattle.node_meaning.specs.Choosing.{bind_sources}
use Rattle.eval_data.specs.Parts.{source_of}
use Rattle.search_steps.proofs.gathered.sources_of.Given as goal

abbrev pub invariant-loop-bind : goal.invariant-loop-bind
invariant-loop-bind l =
    map source_of l.found.items ++ bind_sources (bind_trees (map bind_view (drop l.bind-index l.binds))) ≡ bind_sources (bind_trees (map bind_view l.binds))
