use Rattle.std.proofs.Common.{◌≡◌, ◌++◌, map, drop}
use Rattle.expr_tree.specs.TypeDefView.{type_def_view}
use Rattle.type_graphs.specs.Numbers.{trees_at}
use Rattle.type_graphs.proofs.definitions.push_block.Given as goal

-- the definitions so far, and the rest
abbrev pub invariant-loop-definition : goal.invariant-loop-definition
invariant-loop-definition l =
    trees_at l.definitions.items ++ map type_def_view (drop l.definition-index l.definition-items)
    ≡ trees_at l.fn.definitions.items ++ map type_def_view l.definition-items
