use Rattle.std.proofs.Common.{◌≡◌, ◌++◌, map, flat_map, drop}
use Rattle.vdm_tree.specs.ClassView.{class_view}
use Rattle.class_meaning.specs.TypeGraph.{class_types}
use Rattle.type_graphs.specs.Numbers.{trees_at}
use Rattle.type_graphs.proofs.definitions.type_definitions.Given as goal

-- the definitions so far, and those of the other classes
abbrev pub invariant-loop-class : goal.invariant-loop-class
invariant-loop-class l =
    trees_at l.definitions.items ++ flat_map class_types (map class_view (drop l.class-index l.class-items))
    ≡ flat_map class_types (map class_view l.class-items)
