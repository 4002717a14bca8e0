use Rattle.std.proofs.Common.{◌≡◌, ◌&&◌, Bool, [], ap, ◌∙◌, subst}
use Rattle.std.specs.Cmp.{both_tied}
use Rattle.std.specs.Ordering.{eq_by_cmp}
use Rattle.std.specs.List.Retain.{IsFiltered, DiffersFromLast}
use Rattle.abstract_syntax.specs.Rising.{rising}
use Rattle.abstract_syntax.specs.SameBy.{same_by}
use Rattle.abstract_syntax.specs.ValueCode.{value_code}
use Rattle.abstract_syntax.specs.ValueOrder.{value_order}
use Rattle.abstract_syntax.specs.ValueOrderTotal.{same_by-order}
use Rattle.abstract_syntax.specs.ValueSets.{Entry, pair_order}
use Rattle.abstract_syntax.proofs.MapLaws.{pair_order_total, pair_same}
use Rattle.vdm_sets.proofs.Sorted.{rising_from_sort, refilled}
use Rattle.vdm_sets.proofs.map.rising_pairs.Goals as goal

abbrev same_pair : Entry → Entry → Bool
same_pair p q = same_by value_code p.0 q.0 && same_by value_code p.1 q.1

pair_ties : (p q : Entry) → same_pair p q ≡ eq_by_cmp pair_order p q
pair_ties p q = both_tied _ _ (value_order p.0 q.0) (value_order p.1 q.1) (same_by-order p.0 q.0) (same_by-order p.1 q.1)

pub returns : goal.returns
returns c =
    let filtered = subst (λ pairs. IsFiltered (DiffersFromLast same_pair) [] pairs c.dedup.new.self.items)
    (refilled c.args.pairs.len c.sort.new.self _ (c.in_ok-sort.ensures.len ∙ c.as_mut_slice.ensures.len)) c.dedup.ensures.filtered in
    rising_from_sort pair_order_total pair_same pair_ties _ _ _ c.in_ok-sort.ensures.permutation c.in_ok-sort.ensures.sorted filtered
    ∙ ap (rising pair_order) c.as_mut_slice.ensures.value
