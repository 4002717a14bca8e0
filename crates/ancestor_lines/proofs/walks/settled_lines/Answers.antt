use Rattle.std.proofs.Common.{ℕ, ◌<◌, List, get_or, sym, subst, ap, ◌∙◌, arith, All, ◌∷◌, [], flat_map, Vec, Global}
use Rattle.std.proofs.lemmas.List.{get_or_default}
use Rattle.graph_cycles.specs.Graphs.{graph_of, successors, IsOrder}
use Rattle.graph_cycles.specs.Growing.{with_nodes}
use Rattle.graph_cycles.proofs.Held.{length-graph}
use Rattle.ancestor_lines.proofs.Settling.{SettledSoFar, settled_starts, settled_more, settled_ends, node_below}
use Rattle.ancestor_lines.proofs.walks.settled_lines.Goals as goal

pub loop-node-init : goal.loop-node-init
loop-node-init c = (
  settled_starts (graph_of c.args.graph.now) (graph_of c.in_ok-lines.lines.items)
      (omega (arith, c.in_ok-lines.ensures.count, length-graph c.args.graph.now)) c.in_ok-lines.ensures.none,
  c.requires.found,
)

pub settled_line-requires-clause-node : goal.settled_line-requires-clause-node
settled_line-requires-clause-node c =
    let g = graph_of c.args.graph.now in
    let nodes = c.deref-node-items.result.now in
    let o : IsOrder g nodes = subst (IsOrder g) (sym c.deref-node-items.ensures.value) c.in_ok-nodes.ensures in
    let i = c.loop-node.node-index in
    let below = node_below g nodes o i (get_or nodes i 0) c.loop-node-test.true (get_or_default nodes i 0 (get_or nodes i 0) c.loop-node-test.true) in
    omega (arith, below, length-graph c.args.graph.now)

pub loop-node-preserved : goal.loop-node-preserved
loop-node-preserved c =
    let g = graph_of c.args.graph.now in
    let nodes = c.deref-node-items.result.now in
    let o : IsOrder g nodes = subst (IsOrder g) (sym c.deref-node-items.ensures.value) c.in_ok-nodes.ensures in
    let i = c.loop-node.node-index in (
      settled_more g nodes o i (get_or nodes i 0) c.loop-node-test.true (get_or_default nodes i 0 (get_or nodes i 0) c.loop-node-test.true)
          c.loop-node.lines.items c.in_ok-line.line c.loop-node.invariant.0
          (c.in_ok-line.ensures.line
          ∙ ap (λ (ls : List (Vec ℕ Global)). with_nodes (get_or nodes i 0 ∷ []) (flat_map (successors (graph_of ls)) (successors g (get_or nodes i 0)))) c.deref.ensures.value)
          (subst (λ (n : ℕ). All (λ (b : ℕ). b < n) c.in_ok-line.line.items) (sym (length-graph c.args.graph.now)) c.in_ok-line.ensures.below),
      c.in_ok-line.ensures.found,
    )

pub index_mut-requires : goal.index_mut-requires
index_mut-requires c =
    let g = graph_of c.args.graph.now in
    let nodes = c.deref-node-items.result.now in
    let o : IsOrder g nodes = subst (IsOrder g) (sym c.deref-node-items.ensures.value) c.in_ok-nodes.ensures in
    let i = c.loop-node.node-index in
    let below = node_below g nodes o i (get_or nodes i 0) c.loop-node-test.true (get_or_default nodes i 0 (get_or nodes i 0) c.loop-node-test.true) in
    let s : SettledSoFar g _ (graph_of c.loop-node.lines.items) = c.loop-node.invariant.0 in
    omega (arith, below, s.count, length-graph c.loop-node.lines.items, c.loop-node.lines.ok.0)

pub returns-clause-lines : goal.returns-clause-lines
returns-clause-lines c =
    let g = graph_of c.args.graph.now in
    let nodes = c.deref-node-items.result.now in
    let o : IsOrder g nodes = subst (IsOrder g) (sym c.deref-node-items.ensures.value) c.in_ok-nodes.ensures in
    settled_ends g nodes o c.loop-node.node-index (graph_of c.loop-node.lines.items) (omega (arith, c.loop-node-test.false)) c.loop-node.invariant.0
