use Rattle.std.proofs.Common.{take, length}
use Rattle.graph_cycles.specs.Graphs.{graph_of}
use Rattle.ancestor_lines.specs.Lines.{IsClear}
use Rattle.ancestor_lines.proofs.Settling.{SettledSoFar}
use Rattle.ancestor_lines.proofs.walks.settled_lines.Given as goal

-- the nodes so far have their lists, and no others
abbrev pub invariant-loop-node : goal.invariant-loop-node
invariant-loop-node l =
    SettledSoFar (graph_of l.graph) (take l.node-index l.node-items) (graph_of l.lines.items) × IsClear l.found (length l.graph)
