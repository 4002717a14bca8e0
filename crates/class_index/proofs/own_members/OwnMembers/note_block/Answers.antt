use Rattle.std.proofs.Common.{◌<◌, ℕ, None, drop, get_or, length, subst, ◌+◌}
use Rattle.class_meaning.specs.Members.{or_else}
use Rattle.vdm_tree.specs.ClassView.{block_view}
use Rattle.class_index.specs.Answers.{own_place}
use Rattle.class_index.specs.Places.{items_of, placed_items, first_place}
use Rattle.class_index.proofs.Items.{rest_of}
use Rattle.class_index.proofs.Placing.{next_item}
use Rattle.class_index.proofs.own_members.OwnMembers.note_block.Goals as goal

pub loop-item-preserved : goal.loop-item-preserved
loop-item-preserved c =
    let items = items_of (block_view c.args.block.now) in
    let item = c.loop-item.item in
    let within : item < length items = subst (λ (n : ℕ). item < n) c.item_count-item-end.ensures c.loop-item-test.true in
    next_item c.args.number item (drop item items) (drop (item + 1) items) (get_or items item None) (own_place c.loop-item.self) (own_place c.note_item.new.self)
    (λ ask. or_else (own_place c.args.self.now ask) (first_place ask (placed_items c.args.number 0 items))) (rest_of items item None within)
    c.in_ok-note_item.ensures c.loop-item.invariant
