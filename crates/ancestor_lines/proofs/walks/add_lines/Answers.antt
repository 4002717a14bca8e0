use Rattle.graph_cycles.proofs.Held.{in_range_at}
use Rattle.ancestor_lines.proofs.walks.add_lines.Goals as goal

pub add_all-requires : goal.add_all-requires
add_all-requires c =
    in_range_at c.args.lines.now _ c.index-lines-node.result c.deref.result.now _ c.requires.in_range
    (c.requires.nodes c.loop-node.node-index 0 c.loop-node-test.true)
    c.index-lines-node.is c.deref.ensures.value c.loop-node.invariant.1
