use Rattle.std.proofs.Common.{◌≡◌, ◌++◌, map, drop}
use Rattle.expr_tree.specs.TypeDefView.{type_def_view}
use Rattle.class_index.specs.Lists.{spec_of}
use Rattle.class_meaning.specs.Classes.{numbers_among}
use Rattle.class_meaning.specs.TypeGraph.{alternative_number}
use Rattle.type_graphs.proofs.graph.alternative_numbers.Given as goal

-- the numbers so far, and those of the rest
abbrev pub invariant-loop-alternative : goal.invariant-loop-alternative
invariant-loop-alternative l =
    l.found.items ++ numbers_among (map (alternative_number (spec_of l.list) (type_def_view l.definition)) (drop l.alternative-index l.alternative-items))
    ≡ numbers_among (map (alternative_number (spec_of l.list) (type_def_view l.definition)) l.alternative-items)
