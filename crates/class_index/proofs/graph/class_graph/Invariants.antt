use Rattle.std.proofs.Common.{◌≡◌, ◌++◌, map, drop}
use Rattle.graph_cycles.specs.Graphs.{graph_of}
use Rattle.vdm_tree.specs.ClassView.{class_view}
use Rattle.class_meaning.specs.Classes.{superclass_numbers}
use Rattle.class_index.specs.Lists.{spec_of}
use Rattle.class_index.proofs.graph.class_graph.Given as goal

-- the lists so far, and those of the rest
abbrev pub invariant-loop-class : goal.invariant-loop-class
invariant-loop-class l =
    graph_of l.graph.items ++ map (superclass_numbers (spec_of l.list)) (map class_view (drop l.class-index l.class-items))
    ≡ map (superclass_numbers (spec_of l.list)) (map class_view l.class-items)
