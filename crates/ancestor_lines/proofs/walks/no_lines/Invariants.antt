use Rattle.std.proofs.Common.{◌≡◌, ◌≤◌, ◌-◌, ℕ, [], length}
use Rattle.graph_cycles.specs.Graphs.{graph_of, successors}
use Rattle.ancestor_lines.proofs.walks.no_lines.Given as goal

-- the lists so far are empty
abbrev pub invariant-loop-alloc : goal.invariant-loop-alloc
invariant-loop-alloc l = (length l.lines.items ≤ l.count) × ((a : ℕ) → successors (graph_of l.lines.items) a ≡ [])

abbrev pub decreases-loop-alloc : goal.decreases-loop-alloc
decreases-loop-alloc l = l.count - length l.lines.items
