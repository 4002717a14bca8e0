use Rattle.std.proofs.Common.{◌≡◌, ◌-◌}
use Rattle.stmt_reading.specs.Classes.{blocks_in}
use Rattle.definition_parts.specs.Parts.{put_all}
use Rattle.class_builder.specs.Lists.{blocks_view}
use Rattle.class_builder.proofs.blocks.read_blocks.Given as goal

-- what was read, and what is read in the turns that are left, is what is read in all
abbrev pub invariant-loop-turn : goal.invariant-loop-turn
invariant-loop-turn l = blocks_in l.class l.fn.turns l.fn.source ≡ put_all (blocks_view l.blocks) (blocks_in l.class (l.turns - l._turn) l.source)
