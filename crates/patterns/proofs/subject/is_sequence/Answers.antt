use Rattle.std.proofs.Common.{ap, sym, ◌∙◌, refl}
use Rattle.abstract_syntax.specs.Values.{sequence, value_trees}
use Rattle.vdm_values.specs.Tree.{tree_of}
use Rattle.patterns.proofs.Lists.{told_sequences}
use Rattle.patterns.proofs.subject.is_sequence.Goals as goal

pub returns-in-Seq : goal.returns-in-Seq
returns-in-Seq c =
    told_sequences _ _ _ _ _ (c.node.ensures.tree ∙ ap tree_of c.in-Seq.is ∙ ap (λ xs. sequence (value_trees xs)) (sym c.as_slice.ensures.value)) refl
    c.are_values.ensures
