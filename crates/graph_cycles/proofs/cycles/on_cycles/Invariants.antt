use Rattle.std.proofs.Common.{◌≡◌, map}
use Rattle.std.specs.List.{range_with_len}
use Rattle.graph_cycles.specs.Graphs.{graph_of, is_on_cycle}
use Rattle.graph_cycles.proofs.cycles.on_cycles.Given as goal

-- the answers so far
abbrev pub invariant-loop-node : goal.invariant-loop-node
invariant-loop-node l = l.found.items ≡ map (is_on_cycle (graph_of l.graph)) (range_with_len 0 l.node)
