use Rattle.std.proofs.Common.{◌≡◌, length, rules, ap, sym, ◌∙◌, Some}
use Rattle.expr_tree.specs.View.{pattern_view}
use Rattle.patterns.specs.Lengths.{fixed_length}
use Rattle.patterns.proofs.Opening.{count_of_views}
use Rattle.patterns.proofs.Views.{view_of-Sequence}
use Rattle.patterns.proofs.lengths.fixed_length.Goals as goal

pub returns-in-Sequence : goal.returns-in-Sequence
returns-in-Sequence c =
    let n : c.len.result ≡ length c.in-Sequence.parts.items = search rules in
    ap Some (n ∙ sym (count_of_views c.in-Sequence.parts.items)) ∙
    sym (ap fixed_length (ap pattern_view c.in-Sequence.is ∙ view_of-Sequence c.in-Sequence.parts c.in-Sequence.field-1))
