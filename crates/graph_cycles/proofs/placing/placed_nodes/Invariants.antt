use Rattle.std.proofs.Common.{◌≡◌, ◌-◌, length, vec_len}
use Rattle.graph_cycles.specs.Graphs.{graph_of, StandBehind}
use Rattle.graph_cycles.proofs.placing.placed_nodes.Given as goal

-- each node so far stands behind all that it leads to
abbrev pub invariant-loop-placed : goal.invariant-loop-placed
invariant-loop-placed l = StandBehind (graph_of l.graph) l.placed.nodes.items × (vec_len l.placed.flags ≡ length l.graph)

abbrev pub decreases-loop-placed : goal.decreases-loop-placed
decreases-loop-placed l = length l.graph - length l.placed.nodes.items
