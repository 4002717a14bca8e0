use Rattle.std.proofs.Common.{◌≡◌, length, take, vec_len, flat_map}
use Rattle.graph_cycles.specs.Graphs.{graph_of, successors}
use Rattle.graph_cycles.specs.Growing.{with_nodes}
use Rattle.ancestor_lines.proofs.walks.add_lines.Given as goal

-- the lists of the nodes so far were added
abbrev pub invariant-loop-node : goal.invariant-loop-node
invariant-loop-node l =
    (l.found.nodes.items ≡ with_nodes l.initial.found.nodes.items (flat_map (successors (graph_of l.lines)) (take l.node-index l.nodes)))
    × (vec_len l.found.flags ≡ length l.lines)
