use Rattle.std.proofs.Common.{◌≡◌, ◌++◌, map, flat_map, drop}
use Rattle.vdm_tree.specs.ClassView.{block_view}
use Rattle.class_meaning.specs.TypeGraph.{types_in}
use Rattle.type_graphs.specs.Numbers.{trees_at}
use Rattle.type_graphs.proofs.definitions.push_class.Given as goal

-- the definitions so far, and those of the other blocks
abbrev pub invariant-loop-block : goal.invariant-loop-block
invariant-loop-block l =
    trees_at l.definitions.items ++ flat_map types_in (map block_view (drop l.block-index l.block-items))
    ≡ trees_at l.fn.definitions.items ++ flat_map types_in (map block_view l.block-items)
