use Rattle.std.proofs.Common.{◌++◌, sym, ◌∙◌}
use Rattle.value_operators.specs.Sets.{is_set, members_of}
use Rattle.value_results.proofs.Operands.{all_more, gathered_more, is_set_is, members_is}
use Rattle.set_ops.proofs.distributed.all_members.Goals as goal

pub loop-set-preserved : goal.loop-set-preserved
loop-set-preserved c = record {
  sets = all_more is_set members_of c.args.sets.now c.loop-set.set-index _ c.loop-set-test.true c.set-item.is c.loop-set.invariant.sets
      (is_set_is _ c.node.result.now c.in-Set.others c.node.ensures.tree c.in-Set.is);
  whole = c.in_ok-push_copies.ensures
      ∙ (λ i. c.loop-set.invariant.whole i ++ (c.as_slice.ensures.value ∙ sym (members_is _ c.node.result.now c.in-Set.others c.node.ensures.tree c.in-Set.is)) i)
      ∙ sym (gathered_more is_set members_of c.args.sets.now c.loop-set.set-index _ c.loop-set-test.true c.set-item.is);
}
