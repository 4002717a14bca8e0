use Rattle.std.proofs.Common.{◌≡◌, ◌++◌, drop, map}
use Rattle.std.specs.List.{flat_map}
use Rattle.vdm_tree.specs.ClassView.{block_view}
use Rattle.class_meaning.specs.Members.{members_in}
use Rattle.found_members.specs.Ways.{way_of}
use Rattle.found_members.proofs.ways.push_class.Given as goal

-- those of the blocks so far are pushed, and those of the rest
abbrev pub invariant-loop-block : goal.invariant-loop-block
invariant-loop-block l =
    l.ways.items ++ map way_of (flat_map members_in (map block_view (drop l.block-index l.class.blocks.items)))
    ≡ l.fn.ways.items ++ map way_of (flat_map members_in (map block_view l.class.blocks.items))
