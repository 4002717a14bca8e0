use Rattle.std.proofs.Common.{◌≡◌, ◌++◌, ◌∙◌, ap, sym, subst, List, OnOk}
use Rattle.abstract_syntax.specs.Values.{ValueTree, sequence, value_trees}
use Rattle.vdm_values.specs.Tree.{tree_of}
use Rattle.value_text.proofs.Sequences.{printed-sequence}
use Rattle.value_text.proofs.printed.push_printed.Goals as goal

pub returns-in-Seq : goal.returns-in-Seq
returns-in-Seq c =
    subst (λ (those : List ValueTree). OnOk c.push_sequence.result (c.push_sequence.new.text.items ≡ c.args.text.now.items ++ those))
    (printed-sequence c.args.names.now c.args.value.now c.as_slice.result.now
    (c.node.ensures.tree ∙ ap tree_of c.in-Seq.is ∙ ap (λ xs. sequence (value_trees xs)) (sym c.as_slice.ensures.value)))
    c.push_sequence.ensures
