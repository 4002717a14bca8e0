use Rattle.std.proofs.Common.{[], ap, ◌∙◌, subst}
use Rattle.std.specs.List.Retain.{IsFiltered, DiffersFromLast}
use Rattle.abstract_syntax.specs.Rising.{rising}
use Rattle.abstract_syntax.specs.SameBy.{same_by}
use Rattle.abstract_syntax.specs.ValueCode.{value_code}
use Rattle.abstract_syntax.specs.ValueOrder.{value_order}
use Rattle.abstract_syntax.specs.ValueOrderTotal.{value_order_total, same_from_order, same_by-order}
use Rattle.vdm_sets.proofs.Sorted.{rising_from_sort, refilled}
use Rattle.vdm_sets.proofs.set.rising_values.Goals as goal

pub returns : goal.returns
returns c =
    let filtered = subst (λ values. IsFiltered (DiffersFromLast (same_by value_code)) [] values c.dedup.new.self.items)
    (refilled c.args.values.len c.sort.new.self _ (c.in_ok-sort.ensures.len ∙ c.as_mut_slice.ensures.len)) c.dedup.ensures.filtered in
    rising_from_sort value_order_total same_from_order same_by-order _ _ _ c.in_ok-sort.ensures.permutation c.in_ok-sort.ensures.sorted filtered
    ∙ ap (rising value_order) c.as_mut_slice.ensures.value
