use Rattle.std.proofs.Common.{sym, ◌∙◌, subst}
use Rattle.value_operators.specs.Outcomes.{Gives}
use Rattle.value_operators.specs.Sequences.{overridden}
use Rattle.value_results.proofs.Operands.{on_sequence_and_map_is}
use Rattle.seq_ops.proofs.replacing.overridden.Goals as goal

pub returns-in-Seq-Map : goal.returns-in-Seq-Map
returns-in-Seq-Map c =
    subst (Gives c.of_items.result)
    (sym (on_sequence_and_map_is overridden c.args.a.now c.args.b.now c.node.result.now c.node-2.result.now c.in-Seq-Map.items c.in-Seq-Map.pairs
    c.node.ensures.tree c.in-Seq-Map.is-0 c.node-2.ensures.tree c.in-Seq-Map.is-1
    ∙ (λ i. overridden (sym c.as_slice.ensures.value i) (sym c.as_slice-in-Seq-Map.ensures.value i))))
    c.of_items.ensures
