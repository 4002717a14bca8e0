use Rattle.std.proofs.Common.{◌≡◌, take, vec_len}
use Rattle.graph_cycles.specs.Growing.{with_nodes}
use Rattle.graph_cycles.proofs.nodes.Nodes.add_all.Given as goal

-- the nodes so far were added
abbrev pub invariant-loop-node : goal.invariant-loop-node
invariant-loop-node l =
    (l.self.nodes.items ≡ with_nodes l.initial.self.nodes.items (take l.node-index l.nodes))
    × (vec_len l.self.flags ≡ vec_len l.initial.self.flags)
