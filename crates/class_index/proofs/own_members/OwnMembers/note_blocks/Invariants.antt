use Rattle.std.proofs.Common.{◌≡◌, map, drop}
use Rattle.class_meaning.specs.declared.ask.Ask.{Ask}
use Rattle.class_meaning.specs.Members.{or_else}
use Rattle.vdm_tree.specs.ClassView.{block_view}
use Rattle.class_index.specs.Answers.{own_place}
use Rattle.class_index.specs.Places.{placed_blocks, first_place}
use Rattle.class_index.proofs.own_members.OwnMembers.note_blocks.Given as goal

-- what is noted so far, and then what the rest has
abbrev pub invariant-loop-number : goal.invariant-loop-number
invariant-loop-number l =
    (ask : Ask)
    → or_else (own_place l.self ask) (first_place ask (placed_blocks l.number (map block_view (drop l.number l.blocks))))
    ≡ or_else (own_place l.initial.self ask) (first_place ask (placed_blocks 0 (map block_view l.blocks)))
