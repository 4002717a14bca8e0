use Rattle.std.proofs.Common.{◌++◌, ◌∷◌, [], pos, ap, sym, ◌∙◌}
use Rattle.std.specs.Option.{unwrap_or}
use Rattle.value_operators.specs.Members.{found}
use Rattle.seq_ops.proofs.Replaced.{replaced_more}
use Rattle.seq_ops.proofs.replacing.replaced.Goals as goal

pub loop-index-preserved : goal.loop-index-preserved
loop-index-preserved c =
    c.in_ok-push_either.ensures
    ∙ (λ i. c.loop-index.invariant i ++ unwrap_or ((c.found.ensures ∙ ap (found c.args.pairs.now) c.position_of-position.ensures) i) c.index-items-index.result ∷ [])
    ∙ sym (replaced_more c.args.pairs.now (pos 1) c.args.items.now c.loop-index.index c.index-items-index.result c.loop-index-test.true c.index-items-index.is)
