-- What is printed of a sequence.
use Rattle.std.proofs.Common.{◌≡◌, ◌∙◌, ap, sym, List, ℕ, if◌then◌else◌}
use Rattle.abstract_syntax.specs.Values.{ValueTree, sequence, value_list, value_trees, value_list-value_trees}
use Rattle.report_texts.specs.Printing.{printed_value, text_characters}
use Rattle.report_texts.specs.Values.{are_characters}

pub printed-sequence : (names : List (List ℕ)) (v : ValueTree) (vs : List ValueTree) → v ≡ sequence (value_trees vs) → (if are_characters (value_trees vs) then vs else text_characters names v) ≡ printed_value names v
printed-sequence names v vs is =
    ap (λ (those : List ValueTree). if are_characters (value_trees vs) then those else text_characters names v) (sym (value_list-value_trees vs))
    ∙ ap (λ (w : ValueTree). if are_characters (value_trees vs) then value_list (value_trees vs) else text_characters names w) is
    ∙ sym (ap (printed_value names) is)
