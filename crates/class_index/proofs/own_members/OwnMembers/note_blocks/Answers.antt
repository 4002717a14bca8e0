use Rattle.std.proofs.Common.{◌+◌, map, drop, ap}
use Rattle.class_meaning.specs.Members.{or_else}
use Rattle.vdm_tree.specs.ClassView.{block_view}
use Rattle.class_index.specs.Answers.{own_place}
use Rattle.class_index.specs.Places.{placed_blocks, first_place}
use Rattle.class_index.proofs.Items.{rest_from}
use Rattle.class_index.proofs.Placing.{next_block}
use Rattle.class_index.proofs.own_members.OwnMembers.note_blocks.Goals as goal

pub loop-number-preserved : goal.loop-number-preserved
loop-number-preserved c =
    let blocks = c.args.blocks.now in
    let number = c.loop-number.number in
    let block = c.index-blocks-number.result in
    next_block number (map block_view (drop number blocks)) (map block_view (drop (number + 1) blocks)) (block_view block) (own_place c.loop-number.self)
    (own_place c.note_block.new.self) (λ ask. or_else (own_place c.args.self.now ask) (first_place ask (placed_blocks 0 (map block_view blocks))))
    (ap (map block_view) (rest_from blocks number block c.loop-number-test.true c.index-blocks-number.is)) c.in_ok-note_block.ensures c.loop-number.invariant
