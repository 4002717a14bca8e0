use Rattle.std.proofs.Common.{◌≡◌, drop}
use Rattle.class_meaning.specs.declared.ask.Ask.{Ask}
use Rattle.class_meaning.specs.Members.{or_else}
use Rattle.vdm_tree.specs.ClassView.{block_view}
use Rattle.class_index.specs.Answers.{own_place}
use Rattle.class_index.specs.Places.{items_of, placed_items, first_place}
use Rattle.class_index.proofs.own_members.OwnMembers.note_block.Given as goal

-- what is noted so far, and then what the rest has
abbrev pub invariant-loop-item : goal.invariant-loop-item
invariant-loop-item l =
    (ask : Ask)
    → or_else (own_place l.self ask) (first_place ask (placed_items l.number l.item (drop l.item (items_of (block_view l.block)))))
    ≡ or_else (own_place l.initial.self ask) (first_place ask (placed_items l.number 0 (items_of (block_view l.block))))
