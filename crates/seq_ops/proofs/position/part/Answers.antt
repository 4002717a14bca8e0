use Rattle.std.proofs.Common.{List, ap, sym, ◌∙◌, subst}
use Rattle.abstract_syntax.specs.Values.{ValueTree}
use Rattle.value_operators.specs.Outcomes.{Outcome, Gives}
use Rattle.value_operators.specs.Sequences.{between}
use Rattle.value_results.proofs.Operands.{on_sequence_is}
use Rattle.seq_ops.proofs.position.part.Goals as goal

abbrev row : ValueTree → ValueTree → List ValueTree → Outcome
row a b vs = between vs a b

pub returns-in-Seq : goal.returns-in-Seq
returns-in-Seq c =
    subst (Gives c.part_between.result)
    (sym (on_sequence_is (row c.args.from.now c.args.to.now) c.args.s.now c.node.result.now c.in-Seq.items c.node.ensures.tree c.in-Seq.is
    ∙ ap (row c.args.from.now c.args.to.now) (sym c.as_slice.ensures.value)))
    c.part_between.ensures
