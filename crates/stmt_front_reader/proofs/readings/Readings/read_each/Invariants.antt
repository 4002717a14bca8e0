use Rattle.stmt_front_reader.specs.Views.{reading_views}
use Rattle.stmt_front_reader.proofs.Rounds.{Round}
use Rattle.stmt_front_reader.proofs.readings.Readings.read_each.Given as goal

abbrev pub invariant-loop-left : goal.invariant-loop-left
invariant-loop-left l = Round l.item (reading_views l.fn.self.readings.items) (reading_views l.self.readings.items) l.self.endings.items l.left

abbrev pub decreases-loop-left : goal.decreases-loop-left
decreases-loop-left l = l.left
