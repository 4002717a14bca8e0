use Rattle.std.proofs.Common.{sym, ◌∙◌}
use Rattle.vdm_values.proofs.Lists.{count_of-value_trees, count_of_pairs-pair_trees, by_level_length, by_other_length}
use Rattle.vdm_values.proofs.ordering.+order.Goals as goal

pub order_of_lists-returns-in-Equal : goal.order_of_lists-returns-in-Equal
order_of_lists-returns-in-Equal t c =
    c.order_of_items.ensures ∙ sym (by_level_length _ _ _ _ _ _ (count_of-value_trees c.args.a.now) (count_of-value_trees c.args.b.now) c.cmp.ensures c.in-Equal.is)

pub order_of_lists-returns-in_default : goal.order_of_lists-returns-in_default
order_of_lists-returns-in_default t c =
    sym (by_other_length _ _ _ _ _ _ (count_of-value_trees c.args.a.now) (count_of-value_trees c.args.b.now) c.cmp.ensures c.in_default.not-Equal)

pub order_of_maps-returns-in-Equal : goal.order_of_maps-returns-in-Equal
order_of_maps-returns-in-Equal t c =
    c.order_of_entries.ensures ∙ sym (by_level_length _ _ _ _ _ _ (count_of_pairs-pair_trees c.args.a.now) (count_of_pairs-pair_trees c.args.b.now) c.cmp.ensures c.in-Equal.is)

pub order_of_maps-returns-in_default : goal.order_of_maps-returns-in_default
order_of_maps-returns-in_default t c =
    sym (by_other_length _ _ _ _ _ _ (count_of_pairs-pair_trees c.args.a.now) (count_of_pairs-pair_trees c.args.b.now) c.cmp.ensures c.in_default.not-Equal)
