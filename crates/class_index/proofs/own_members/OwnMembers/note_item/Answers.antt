use Rattle.vdm_tree.specs.ClassView.{block_view}
use Rattle.class_index.specs.Answers.{own_place}
use Rattle.class_index.proofs.Placing.{noted, not_noted}
use Rattle.class_index.proofs.own_members.OwnMembers.note_item.Goals as goal

pub returns-in_ok-note : goal.returns-in_ok-note
returns-in_ok-note c =
    noted c.args.number c.args.item (block_view c.args.block.now) c.member_in.result c.in-Some.kind c.in-Some.asked (own_place c.args.self.now)
    (own_place c.note.new.self) c.member_in.ensures c.in-Some.is c.in_ok-note.ensures

pub returns-in_default : goal.returns-in_default
returns-in_default c =
    not_noted c.args.number c.args.item (block_view c.args.block.now) c.member_in.result (own_place c.args.self.now) c.member_in.ensures c.in_default.is
