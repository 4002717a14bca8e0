use Rattle.std.proofs.Common.{ap, sym, ◌∙◌, subst}
use Rattle.value_operators.specs.Outcomes.{Gives}
use Rattle.value_operators.specs.Sequences.{sequence_one}
use Rattle.value_results.proofs.Operands.{on_sequence_is}
use Rattle.seq_ops.proofs.operand.of_sequence.Goals as goal

pub returns-in-Seq : goal.returns-in-Seq
returns-in-Seq c =
    subst (Gives c.of_items.result)
    (sym (on_sequence_is (sequence_one c.args.operator) c.args.a.now c.node.result.now c.in-Seq.items c.node.ensures.tree c.in-Seq.is
    ∙ ap (sequence_one c.args.operator) (sym c.as_slice.ensures.value)))
    c.of_items.ensures
