use Rattle.std.proofs.Common.{◌≡◌, ◌<◌, ◌≤◌, length, arith}
use Rattle.graph_cycles.specs.Graphs.{graph_of}
use Rattle.graph_cycles.proofs.Finding.{search_starts, search_follows, search_ends}
use Rattle.graph_cycles.proofs.Held.{few, at_below, length-graph}
use Rattle.ancestor_lines.proofs.Filling.{reached}
use Rattle.ancestor_lines.proofs.walks.reached_line.Goals as goal

pub loop-next-init : goal.loop-next-init
loop-next-init c = (
  search_starts (graph_of c.args.graph.now) c.args.start c.args.found.now.nodes.items c.follow.new.found.nodes.items
      c.requires.found.1 c.in_ok-follow.ensures.nodes,
  c.in_ok-follow.ensures.count,
)

pub follow-requires-in-loop-next-clause-node : goal.follow-requires-in-loop-next-clause-node
follow-requires-in-loop-next-clause-node c =
    let f = c.loop-next.found in
    let l : c.loop-next.next < length f.nodes.items = omega (arith, f.nodes.ok.0) in
    let count : length f.flags.items ≡ length c.args.graph.now = omega (arith, f.flags.ok.0, c.loop-next.invariant.1) in
    at_below f.flags.items f.nodes.items (length c.args.graph.now) c.loop-next.next _ f.marked count l c.index-node.ensures

pub loop-next-smaller : goal.loop-next-smaller
loop-next-smaller c =
    let f = c.loop-next.found in
    let l : c.loop-next.next < length f.nodes.items = omega (arith, f.nodes.ok.0) in
    let count : length f.flags.items ≡ length c.args.graph.now = omega (arith, f.flags.ok.0, c.loop-next.invariant.1) in
    let most : length f.nodes.items ≤ length c.args.graph.now = few f.flags.items f.nodes.items (length c.args.graph.now) f.marked f.apart count in
    omega arith

pub loop-next-preserved : goal.loop-next-preserved
loop-next-preserved c =
    let f = c.loop-next.found in
    let l : c.loop-next.next < length f.nodes.items = omega (arith, f.nodes.ok.0) in (
      search_follows (graph_of c.args.graph.now) c.args.start f.nodes.items c.loop-next.next _ c.follow-in-loop-next.new.found.nodes.items
          c.loop-next.invariant.0 l c.index-node.ensures c.in_ok-follow-2.ensures.nodes,
      c.in_ok-follow-2.ensures.count,
    )

pub returns-clause-line : goal.returns-clause-line
returns-clause-line c =
    let f = c.loop-next.found in
    let g = graph_of c.args.graph.now in
    let count : length f.flags.items ≡ length g = omega (arith, f.flags.ok.0, c.loop-next.invariant.1, length-graph c.args.graph.now) in
    reached g c.args.start f.nodes.items c.add.new.self.nodes.items c.take.result.items
    (search_ends g c.args.start f.nodes.items c.loop-next.next c.loop-next.invariant.0 (omega (arith, f.nodes.ok.0))
    (few f.flags.items f.nodes.items (length g) f.marked f.apart count))
    c.in_ok-add.ensures.nodes c.take.ensures.nodes
