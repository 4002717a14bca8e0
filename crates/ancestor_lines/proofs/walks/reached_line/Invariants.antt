use Rattle.std.proofs.Common.{◌≡◌, ◌-◌, length, vec_len}
use Rattle.graph_cycles.specs.Graphs.{graph_of}
use Rattle.graph_cycles.proofs.Finding.{Searched}
use Rattle.ancestor_lines.proofs.walks.reached_line.Given as goal

-- the nodes before the next were followed
abbrev pub invariant-loop-next : goal.invariant-loop-next
invariant-loop-next l = Searched (graph_of l.graph) l.start l.found.nodes.items l.next × (vec_len l.found.flags ≡ length l.graph)

abbrev pub decreases-loop-next : goal.decreases-loop-next
decreases-loop-next l = length l.graph - l.next
