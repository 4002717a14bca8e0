use Rattle.std.proofs.Common.{◌≡◌, ◌-◌, true, length, map}
use Rattle.abstract_syntax.specs.Classes.{SpecTree}
use Rattle.class_meaning.specs.Classes.{classes}
use Rattle.vdm_tree.specs.ClassView.{class_view}
use Rattle.found_members.specs.Rows.{Rows, is_placed}
use Rattle.found_members.proofs.Placing.{Gathers}
use Rattle.found_members.proofs.heirs.with_ways.Given as goal

-- what is still wanted are the ways of the class that is reached
abbrev pub invariant-loop-turn : goal.invariant-loop-turn
invariant-loop-turn l = (spec : SpecTree) → map class_view l.classes ≡ classes spec → Rows l.rows spec → is_placed l.rows l.k ≡ true
    → Gathers spec l.rows l.fn.ways.items l.ways.items l.k l.at (length l.rows - l._turn)
