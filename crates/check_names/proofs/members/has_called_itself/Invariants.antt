use Rattle.std.proofs.Common.{◌≡◌, map, drop}
use Rattle.std.specs.List.{list_any, flat_map}
use Rattle.class_meaning.specs.Members.{members_in}
use Rattle.class_checks.specs.Callees.{is_called}
use Rattle.vdm_tree.specs.ClassView.{block_view}
use Rattle.check_names.proofs.members.has_called_itself.Given as goal

abbrev pub invariant-loop-block : goal.invariant-loop-block
invariant-loop-block l =
    list_any (is_called l.name) (flat_map members_in (map block_view (drop l.block-index l.class.blocks.items)))
    ≡ list_any (is_called l.name) (flat_map members_in (map block_view l.class.blocks.items))
