use Rattle.std.proofs.Common.{◌≡◌, [], flat_map, take}
use Rattle.graph_cycles.specs.Growing.{with_nodes}
use Rattle.ancestor_lines.specs.Parts.{Knows, numbers, lists_of, list_at}
use Rattle.ancestor_lines.proofs.gathered.line_operations.Given as goal

-- the names so far were added
abbrev pub invariant-loop-k : goal.invariant-loop-k
invariant-loop-k l =
    (numbers l.found.names.items ≡ with_nodes [] (numbers (flat_map (list_at (lists_of l.own)) (take l.k-index l.line))))
    × Knows l.found.seen.keys l.found.names.items
