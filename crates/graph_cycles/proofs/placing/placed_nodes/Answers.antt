use Rattle.std.proofs.Common.{◌≡◌, ◌≢◌, ◌≤◌, length, arith, ap, sym, subst}
use Rattle.graph_cycles.specs.Graphs.{graph_of, StandBehind}
use Rattle.graph_cycles.proofs.Orders.{is_order, behind-all, length-all}
use Rattle.graph_cycles.proofs.Held.{few, below_flags, length-graph}
use Rattle.graph_cycles.proofs.placing.placed_nodes.Goals as goal

pub returns-then-len-count : goal.returns-then-len-count
returns-then-len-count c =
    let g = graph_of c.args.graph.now in
    let p = c.loop-placed.placed in
    let more = c.place_all_ready.new.placed in
    let count : length p.flags.items ≡ length g = omega (arith, p.flags.ok.0, c.loop-placed.invariant.1, length-graph c.args.graph.now) in
    let same : length more.nodes.items ≡ length p.nodes.items = omega (arith, p.nodes.ok.0, more.nodes.ok.0, c.len.ensures, c.len-count.ensures, c.if-len-count.true) in (
      is_order g p.nodes.items more.nodes.items c.requires p.apart (below_flags p.flags.items p.nodes.items (length g) p.marked count)
          c.loop-placed.invariant.0 c.in_ok-place_all_ready.ensures.nodes same,
      c.in_ok-place_all_ready.ensures.count,
    )

pub loop-placed-smaller : goal.loop-placed-smaller
loop-placed-smaller c =
    let p = c.loop-placed.placed in
    let more = c.place_all_ready.new.placed in
    let count : length more.flags.items ≡ length c.args.graph.now = omega (arith, more.flags.ok.0, c.in_ok-place_all_ready.ensures.count) in
    let most : length more.nodes.items ≤ length c.args.graph.now = few more.flags.items more.nodes.items (length c.args.graph.now) more.marked more.apart count in
    let least : length p.nodes.items ≤ length more.nodes.items = omega (arith, ap length c.in_ok-place_all_ready.ensures.nodes, length-all (graph_of c.args.graph.now) p.nodes.items) in
    let other : length more.nodes.items ≢ length p.nodes.items = λ e. c.if-len-count.false (omega (arith, p.nodes.ok.0, more.nodes.ok.0, c.len.ensures, c.len-count.ensures, e)) in
    omega arith

pub loop-placed-preserved : goal.loop-placed-preserved
loop-placed-preserved c =
    let g = graph_of c.args.graph.now in (
      subst (StandBehind g) (sym c.in_ok-place_all_ready.ensures.nodes) (behind-all g c.loop-placed.placed.nodes.items c.loop-placed.invariant.0),
      c.in_ok-place_all_ready.ensures.count,
    )
