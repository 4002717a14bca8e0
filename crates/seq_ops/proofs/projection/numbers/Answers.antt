use Rattle.std.proofs.Common.{◌++◌, ◌∷◌, [], pos, sym, ◌∙◌}
use Rattle.value_operators.proofs.Consecutive.{numbers_more}
use Rattle.seq_ops.proofs.projection.numbers.Goals as goal

pub loop-index-preserved : goal.loop-index-preserved
loop-index-preserved c =
    c.in_ok-push.ensures.items
    ∙ (λ i. c.loop-index.invariant i ++ c.position_of.ensures i ∷ [])
    ∙ sym (numbers_more (pos 1) c.loop-index.index)
