use Rattle.std.proofs.Common.{◌++◌, sym, ◌∙◌}
use Rattle.value_operators.specs.Sequences.{is_sequence, items_of}
use Rattle.value_results.proofs.Operands.{all_more, gathered_more, is_sequence_is, items_is}
use Rattle.seq_ops.proofs.joining.all_parts.Goals as goal

pub loop-part-preserved : goal.loop-part-preserved
loop-part-preserved c = record {
  parts = all_more is_sequence items_of c.args.parts.now c.loop-part.part-index _ c.loop-part-test.true c.part-item.is c.loop-part.invariant.parts
      (is_sequence_is _ c.node.result.now c.in-Seq.others c.node.ensures.tree c.in-Seq.is);
  whole = c.in_ok-push_copies.ensures
      ∙ (λ i. c.loop-part.invariant.whole i ++ (c.as_slice.ensures.value ∙ sym (items_is _ c.node.result.now c.in-Seq.others c.node.ensures.tree c.in-Seq.is)) i)
      ∙ sym (gathered_more is_sequence items_of c.args.parts.now c.loop-part.part-index _ c.loop-part-test.true c.part-item.is);
}
