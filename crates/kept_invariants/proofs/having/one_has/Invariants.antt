use Rattle.std.proofs.Common.{◌≡◌, map, drop}
use Rattle.vdm_tree.specs.ClassView.{variable_item_view}
use Rattle.stmt_meaning.specs.Keeping.{conditions_among}
use Rattle.kept_invariants.specs.Presence.{has_any}
use Rattle.kept_invariants.proofs.having.one_has.Given as goal

abbrev pub invariant-loop-item : goal.invariant-loop-item
invariant-loop-item l =
    has_any (conditions_among (map variable_item_view (drop l.item-index l.items))) ≡ has_any (conditions_among (map variable_item_view l.items))
