use Rattle.std.proofs.Common.{ap, ◌∙◌}
use Rattle.graph_cycles.specs.Graphs.{graph_of}
use Rattle.class_index.specs.Lists.{spec_of}
use Rattle.spec_table.proofs.Building.{in_range, lines_of}
use Rattle.spec_table.proofs.making.classes_above.Goals as goal

pub lines-requires : goal.lines-requires
lines-requires c =
    in_range (spec_of c.args.list.now) (graph_of c.as_slice.result.now) (ap graph_of c.as_slice.ensures.value ∙ c.in_ok-graph.ensures)

pub returns : goal.returns
returns c = (
  c.in_ok-graph.ensures,
  lines_of (spec_of c.args.list.now) (graph_of c.as_slice.result.now) (graph_of c.in_ok-lines.lines.items)
      (ap graph_of c.as_slice.ensures.value ∙ c.in_ok-graph.ensures) c.in_ok-lines.ensures,
)
