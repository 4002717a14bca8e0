use Rattle.std.proofs.Common.{◌≡◌, map, drop}
use Rattle.text_phases.specs.Built.{unbuilt_in_class_blocks}
use Rattle.vdm_tree.specs.ClassView.{block_view}
use Rattle.built_forms.proofs.classes.unbuilt_in_class_blocks.Given as goal

-- the blocks so far are built, so that the rest decides
abbrev pub invariant-loop-block : goal.invariant-loop-block
invariant-loop-block l =
    unbuilt_in_class_blocks (map block_view (drop l.block-index l.blocks))
    ≡ unbuilt_in_class_blocks (map block_view l.blocks)
