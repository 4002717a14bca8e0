use Rattle.std.proofs.Common.{sym, ◌∙◌}
use Rattle.graph_cycles.specs.Graphs.{graph_of}
use Rattle.graph_cycles.proofs.Held.{not_on_cycle}
use Rattle.graph_cycles.proofs.cycles.is_on_cycle.Goals as goal

pub returns-then-has : goal.returns-then-has
returns-then-has c =
    not_on_cycle (graph_of c.args.graph.now) c.args.placed.now.nodes.items c.args.node c.requires.placed (sym c.has.ensures ∙ c.if-has.true)
