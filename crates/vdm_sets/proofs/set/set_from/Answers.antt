use Rattle.std.proofs.Common.{ap, sym, ◌∙◌, subst}
use Rattle.std.specs.List.Sorted.{IsStrictlySortedBy}
use Rattle.abstract_syntax.specs.ValueOrder.{value_order}
use Rattle.abstract_syntax.specs.Rising.{rising}
use Rattle.abstract_syntax.specs.ValueOrderTotal.{value_order_total, same_from_order}
use Rattle.abstract_syntax.proofs.RisingLaws.{rising_rises}
use Rattle.vdm_sets.proofs.set.set_from.Goals as goal

pub new-requires : goal.new-requires
new-requires c =
    subst (IsStrictlySortedBy value_order) (sym (c.in_ok-values.ensures ∙ ap (rising value_order) c.into_vec.ensures))
    (rising_rises value_order_total same_from_order c.args.items)
