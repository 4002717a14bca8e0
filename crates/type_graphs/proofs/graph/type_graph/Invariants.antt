use Rattle.std.proofs.Common.{◌≡◌, ◌++◌, map, drop}
use Rattle.graph_cycles.specs.Graphs.{graph_of}
use Rattle.class_index.specs.Lists.{spec_of}
use Rattle.class_meaning.specs.TypeGraph.{alternative_numbers}
use Rattle.type_graphs.specs.Numbers.{trees_at}
use Rattle.type_graphs.proofs.graph.type_graph.Given as goal

-- the lists so far, and those of the rest
abbrev pub invariant-loop-definition : goal.invariant-loop-definition
invariant-loop-definition l =
    graph_of l.graph.items ++ map (alternative_numbers (spec_of l.list)) (trees_at (drop l.definition-index l.definition-items))
    ≡ map (alternative_numbers (spec_of l.list)) (trees_at l.definition-items)
