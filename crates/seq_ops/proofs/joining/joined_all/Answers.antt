use Rattle.std.proofs.Common.{ap, sym, ◌∙◌, subst}
use Rattle.value_operators.specs.Outcomes.{Gives}
use Rattle.value_operators.specs.Sequences.{of_all_sequences, joined_all}
use Rattle.value_results.proofs.Operands.{on_sequence_is}
use Rattle.seq_ops.proofs.joining.joined_all.Goals as goal

pub returns-in-Seq : goal.returns-in-Seq
returns-in-Seq c =
    subst (Gives c.all_parts.result)
    (sym (on_sequence_is (of_all_sequences joined_all) c.args.a.now c.node.result.now c.in-Seq.parts c.node.ensures.tree c.in-Seq.is
    ∙ ap (of_all_sequences joined_all) (sym c.as_slice.ensures.value)))
    c.all_parts.ensures
