use Rattle.std.proofs.Common.{◌≡◌, map, drop}
use Rattle.std.specs.List.{list_all}
use Rattle.vdm_tree.specs.ClassView.{block_view}
use Rattle.member_meaning.specs.TypeRanks.{stand_in}
use Rattle.spec_table.proofs.typing.has_its_types.Given as goal

abbrev pub invariant-loop-block : goal.invariant-loop-block
invariant-loop-block l =
    list_all (stand_in l.class.name) (map block_view (drop l.block-index l.class.blocks.items))
    ≡ list_all (stand_in l.class.name) (map block_view l.class.blocks.items)
