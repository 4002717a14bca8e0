use Rattle.std.proofs.Common.{◌≡◌, ◌-◌, true, length}
use Rattle.abstract_syntax.specs.Classes.{SpecTree}
use Rattle.class_meaning.specs.Classes.{classes}
use Rattle.found_members.specs.Rows.{HaveIndexes, Rows, is_placed}
use Rattle.found_members.proofs.Placing.{Follows}
use Rattle.found_members.proofs.following.follow.Given as goal

-- what is found in the class that is reached is what is wanted
abbrev pub invariant-loop-turn : goal.invariant-loop-turn
invariant-loop-turn l = (spec : SpecTree) → HaveIndexes l.own (classes spec) → Rows l.rows spec → is_placed l.rows l.k ≡ true
    → Follows spec l.rows l.ask l.k l.at (length l.rows - l._turn)
