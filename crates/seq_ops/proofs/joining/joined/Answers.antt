use Rattle.std.proofs.Common.{sym, ◌∙◌, subst}
use Rattle.value_operators.specs.Outcomes.{Gives}
use Rattle.value_operators.specs.Sequences.{joined}
use Rattle.value_results.proofs.Operands.{on_sequences_is}
use Rattle.seq_ops.proofs.joining.joined.Goals as goal

pub returns-in-Seq-Seq : goal.returns-in-Seq-Seq
returns-in-Seq-Seq c =
    subst (Gives c.both.result)
    (sym (on_sequences_is joined c.args.a.now c.args.b.now c.node.result.now c.node-2.result.now c.in-Seq-Seq.a c.in-Seq-Seq.b
    c.node.ensures.tree c.in-Seq-Seq.is-0 c.node-2.ensures.tree c.in-Seq-Seq.is-1
    ∙ (λ i. joined (sym c.as_slice.ensures.value i) (sym c.as_slice-in-Seq-Seq.ensures.value i))))
    c.both.ensures
