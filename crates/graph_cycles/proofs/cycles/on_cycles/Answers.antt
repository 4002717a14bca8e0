use Rattle.graph_cycles.specs.Graphs.{graph_of}
use Rattle.graph_cycles.proofs.Held.{cycles_more}
use Rattle.graph_cycles.proofs.cycles.on_cycles.Goals as goal

pub loop-node-preserved : goal.loop-node-preserved
loop-node-preserved c =
    cycles_more (graph_of c.args.graph.now) c.loop-node.found.items c.push.new.self.items c.loop-node.node c.in_ok-is_on_cycle.field-0
    c.loop-node.invariant c.in_ok-is_on_cycle.ensures c.in_ok-push.ensures.items
