use Rattle.graph_cycles.proofs.Held.{in_range_at}
use Rattle.ancestor_lines.proofs.walks.follow.Goals as goal

pub add_all-requires : goal.add_all-requires
add_all-requires c =
    in_range_at c.args.graph.now c.args.node c.index-graph-node.result c.deref.result.now _ c.requires.in_range c.requires.node
    c.index-graph-node.is c.deref.ensures.value c.requires.count
