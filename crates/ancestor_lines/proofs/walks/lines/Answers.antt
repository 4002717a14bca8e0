use Rattle.std.proofs.Common.{◌≡◌, ◌<◌, ℕ, [], ◌+◌, refl, length, get_or, ap, sym, subst, ◌∙◌, arith, eqb-true, eq-eqb, Vec, Global}
use Rattle.std.proofs.lemmas.List.{nil_from_length}
use Rattle.graph_cycles.specs.Graphs.{graph_of}
use Rattle.graph_cycles.proofs.Held.{length-graph, successors_at}
use Rattle.graph_cycles.proofs.Members.{not_both}
use Rattle.ancestor_lines.specs.Lines.{IsClear}
use Rattle.ancestor_lines.specs.declared.nodes.Nodes.{Nodes}
use Rattle.ancestor_lines.proofs.Filling.{FilledSoFar, fill_kept, fill_more}
use Rattle.ancestor_lines.proofs.walks.lines.Goals.{then-is_empty+in_ok-line, else-is_empty}
use Rattle.ancestor_lines.proofs.walks.lines.Goals as goal

pub loop-node-preserved : goal.loop-node-preserved
loop-node-preserved c =
    let g = graph_of c.args.graph.now in
    let lines = c.loop-node.lines.items in
    let v = c.index.result.now in
    let s : FilledSoFar g c.loop-node.node (graph_of lines) = c.loop-node.invariant.0 in
    let l : c.loop-node.node < length g = omega (arith, length-graph c.args.graph.now, c.loop-node-test.true) in
    let m : c.loop-node.node < length lines = omega (arith, l, s.count, length-graph lines) in
    let line : c.index.result.now.items ≡ get_or (graph_of lines) c.loop-node.node [] =
    successors_at lines c.loop-node.node c.index.result.now c.index.result.now.items m c.index.ensures refl in
    elim c.if-is_empty.branch [
      | then-is_empty+in_ok-line w ↦ (
        subst (λ (v : Vec (Vec ℕ Global) Global). FilledSoFar g (c.loop-node.node + 1) (graph_of v.items)) (sym w.lines-is)
            (fill_more g c.loop-node.node lines w.in_ok-line.line s l (sym line ∙ nil_from_length v.items (omega (arith, v.ok.0, eqb-true v.len 0 (sym c.is_empty.ensures ∙ w.if-is_empty.true)))) w.in_ok-line.ensures.line),
        subst (λ (n : Nodes). IsClear n (length c.args.graph.now)) (sym w.found-is) w.in_ok-line.ensures.found,
      )
      | else-is_empty w ↦ (
        subst (λ (v : Vec (Vec ℕ Global) Global). FilledSoFar g (c.loop-node.node + 1) (graph_of v.items)) (sym w.lines-is)
            (fill_kept g c.loop-node.node (graph_of lines) s (λ none.
            not_both (eq-eqb v.len 0 (omega (arith, v.ok.0, ap length (line ∙ none)))) (sym c.is_empty.ensures ∙ w.if-is_empty.false))),
        subst (λ (n : Nodes). IsClear n (length c.args.graph.now)) (sym w.found-is) c.loop-node.invariant.1,
      )
    ]
