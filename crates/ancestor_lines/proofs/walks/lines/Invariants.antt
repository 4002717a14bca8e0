use Rattle.std.proofs.Common.{length}
use Rattle.graph_cycles.specs.Graphs.{graph_of}
use Rattle.ancestor_lines.specs.Lines.{IsClear}
use Rattle.ancestor_lines.proofs.Filling.{FilledSoFar}
use Rattle.ancestor_lines.proofs.walks.lines.Given as goal

-- the nodes so far have lists, and of the others those that lead to no cycle
abbrev pub invariant-loop-node : goal.invariant-loop-node
invariant-loop-node l = FilledSoFar (graph_of l.graph) l.node (graph_of l.lines.items) × IsClear l.found (length l.graph)
