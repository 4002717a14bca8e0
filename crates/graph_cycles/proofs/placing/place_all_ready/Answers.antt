use Rattle.graph_cycles.specs.Graphs.{graph_of}
use Rattle.graph_cycles.proofs.Held.{placed_more}
use Rattle.graph_cycles.proofs.placing.place_all_ready.Goals as goal

pub loop-node-preserved : goal.loop-node-preserved
loop-node-preserved c = (
  placed_more (graph_of c.args.graph.now) c.args.placed.now.nodes.items c.loop-node.placed.nodes.items c.place_ready.new.placed.nodes.items c.loop-node.node
      c.loop-node.invariant.0 c.in_ok-place_ready.ensures.nodes,
  c.in_ok-place_ready.ensures.count,
)
