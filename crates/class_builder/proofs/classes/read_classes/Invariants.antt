use Rattle.std.proofs.Common.{◌≡◌, ◌-◌}
use Rattle.stmt_reading.specs.Classes.{classes_in}
use Rattle.definition_parts.specs.Parts.{put_all}
use Rattle.class_builder.specs.Lists.{classes_view}
use Rattle.class_builder.proofs.classes.read_classes.Given as goal

-- what was read, and what is read in the turns that are left, is what is read in all
abbrev pub invariant-loop-turn : goal.invariant-loop-turn
invariant-loop-turn l = classes_in l.fn.turns l.fn.source ≡ put_all (classes_view l.classes) (classes_in (l.turns - l._turn) l.source)
