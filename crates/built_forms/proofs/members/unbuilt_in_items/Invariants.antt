use Rattle.std.proofs.Common.{◌≡◌, map, drop}
use Rattle.text_phases.specs.Built.{unbuilt_in_items}
use Rattle.vdm_tree.specs.ClassView.{variable_item_view}
use Rattle.built_forms.proofs.members.unbuilt_in_items.Given as goal

-- the items so far are built, so that the rest decides
abbrev pub invariant-loop-item : goal.invariant-loop-item
invariant-loop-item l = unbuilt_in_items (map variable_item_view (drop l.item-index l.items)) ≡ unbuilt_in_items (map variable_item_view l.items)
