use Rattle.std.proofs.Common.{◌≡◌, length, vec_len}
use Rattle.std.specs.List.{fold, range_with_len}
use Rattle.graph_cycles.specs.Graphs.{graph_of}
use Rattle.graph_cycles.specs.Growing.{with_ready}
use Rattle.graph_cycles.proofs.placing.place_all_ready.Given as goal

-- the nodes so far were placed where they were ready
abbrev pub invariant-loop-node : goal.invariant-loop-node
invariant-loop-node l =
    (l.placed.nodes.items ≡ fold (with_ready (graph_of l.graph)) l.initial.placed.nodes.items (range_with_len 0 l.node))
    × (vec_len l.placed.flags ≡ length l.graph)
