use Rattle.std.proofs.Common.{◌<◌, ◌≤◌, ◌∙◌, ◌||◌, nat_eq, length, get_or, refl, sym, ap, arith}
use Rattle.std.proofs.lemmas.List.{take_all}
use Rattle.graph_cycles.specs.Graphs.{graph_of, is_in}
use Rattle.found_members.proofs.Placing.{node_below, node_settles, node_behind, nodes_in, whole}
use Rattle.found_members.proofs.heirs.rows_of.Goals as goal

pub with_row-requires-clause-node : goal.with_row-requires-clause-node
with_row-requires-clause-node c =
    let within : c.loop-node.node-index < length c.args.nodes.now = omega arith in
    node_below c.args.graph.now c.args.nodes.now c.loop-node.node-index c.requires within

pub loop-node-preserved : goal.loop-node-preserved
loop-node-preserved c = (
  c.in_ok-rows-2.ensures.count,
  λ spec builds.
      let graph = graph_of c.args.graph.now in
      let nodes = c.args.nodes.now in
      let i = c.loop-node.node-index in
      let within : i < length nodes = omega arith in
      let before = c.loop-node.invariant.1 spec builds in
      let placed = c.in_ok-rows-2.ensures.placed spec builds before.0
      (node_behind spec graph builds.same_graph nodes c.requires c.loop-node.rows.items i within before.1)
      (node_settles spec graph builds.same_graph nodes c.requires i within) in
      (placed.rows, λ a. placed.placed a ∙ ap (λ t. nat_eq a (get_or nodes i 0) || t) (before.1 a) ∙ sym (nodes_in nodes i (get_or nodes i 0) a within refl)),
)

pub returns : goal.returns
returns c = λ spec builds.
    let nodes = c.args.nodes.now in
    let done = c.loop-node.invariant.1 spec builds in
    let past : length nodes ≤ c.loop-node.node-index = omega arith in (
      done.0,
      whole spec (graph_of c.args.graph.now) builds.same_graph nodes c.requires c.loop-node.rows.items
          (λ a. done.1 a ∙ ap (λ xs. is_in xs a) (take_all c.loop-node.node-index nodes past)),
    )
