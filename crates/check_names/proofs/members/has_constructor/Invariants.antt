use Rattle.std.proofs.Common.{◌≡◌, map, drop}
use Rattle.std.specs.List.{list_any, flat_map}
use Rattle.abstract_syntax.specs.Classes.{operations_in}
use Rattle.class_checks.specs.Callees.{is_constructor}
use Rattle.vdm_tree.specs.ClassView.{block_view, class_view}
use Rattle.check_names.proofs.members.has_constructor.Given as goal

abbrev pub invariant-loop-block : goal.invariant-loop-block
invariant-loop-block l =
    list_any (is_constructor (class_view l.class)) (flat_map operations_in (map block_view (drop l.block-index l.class.blocks.items)))
    ≡ list_any (is_constructor (class_view l.class)) (flat_map operations_in (map block_view l.class.blocks.items))
