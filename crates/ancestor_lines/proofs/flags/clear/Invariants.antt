use Rattle.std.proofs.Common.{◌≡◌, take, vec_len}
use Rattle.ancestor_lines.specs.Clearing.{cleared}
use Rattle.ancestor_lines.proofs.flags.clear.Given as goal

-- the flags of the nodes so far were taken away
abbrev pub invariant-loop-node : goal.invariant-loop-node
invariant-loop-node l = (l.flags.items ≡ cleared l.initial.flags.items (take l.node-index l.nodes)) × (vec_len l.flags ≡ vec_len l.initial.flags)
