use Rattle.std.proofs.Common.{◌≡◌, ℕ, length, ◌≤◌}
use Rattle.stmt_fronts.specs.Depth as depths
use Rattle.stmt_front_reader.proofs.open_nodes.OpenNodes.end.Given as goal

-- a depth that is allowed, from which the nodes that are left end as from the beginning
pub record Ending (old new : depths.Nest) (depth : ℕ) : Type 0 where
  pub ends : new ≡ old
  pub allowed : depth ≤ 200

abbrev pub invariant-loop-node : goal.invariant-loop-node
invariant-loop-node l =
    Ending (depths.end_over l.fn.wanted l.fn.pull 0 l.initial.self) (depths.end_over l.fn.wanted l.fn.pull l.depth l.self) l.depth

abbrev pub decreases-loop-node : goal.decreases-loop-node
decreases-loop-node l = length l.self
