use Rattle.std.proofs.Common.{◌≡◌, map, drop}
use Rattle.std.specs.List.{list_any, flat_map}
use Rattle.abstract_syntax.specs.Classes.{operations_in}
use Rattle.class_checks.specs.Members.{is_synchronised}
use Rattle.vdm_tree.specs.ClassView.{block_view, class_view}
use Rattle.check_names.proofs.members.has_synchronised.Given as goal

abbrev pub invariant-loop-block : goal.invariant-loop-block
invariant-loop-block l =
    list_any (is_synchronised l.name (class_view l.class)) (flat_map operations_in (map block_view (drop l.block-index l.class.blocks.items)))
    ≡ list_any (is_synchronised l.name (class_view l.class)) (flat_map operations_in (map block_view l.class.blocks.items))
