use Rattle.std.proofs.Common.{List, map, ap, ◌∙◌}
use Rattle.class_meaning.specs.Members.{or_else}
use Rattle.vdm_tree.specs.declared.class_def.Block.{Block}
use Rattle.vdm_tree.specs.ClassView.{class_view, block_view}
use Rattle.class_index.specs.Places.{placed_blocks, first_place}
use Rattle.class_index.proofs.Placing.{indexed}
use Rattle.class_index.proofs.own_members.OwnMembers.of.Goals as goal

pub returns : goal.returns
returns c =
    indexed (class_view c.args.class.now) c.note_blocks.new.self
    (λ ask. c.in_ok-note_blocks.ensures ask
    ∙ ap (λ o. or_else o (first_place ask (placed_blocks 0 (map block_view c.deref.result.now)))) (c.none-members.ensures ask)
    ∙ ap (λ (blocks : List Block). first_place ask (placed_blocks 0 (map block_view blocks))) c.deref.ensures.value)
