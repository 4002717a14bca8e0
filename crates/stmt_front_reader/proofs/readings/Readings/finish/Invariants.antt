use Rattle.std.proofs.Common.{◌≡◌, ◌++◌, false, length, map}
use Rattle.stmt_fronts.specs.Fronts.{ending}
use Rattle.stmt_front_reader.specs.Views.{reading_views}
use Rattle.stmt_front_reader.proofs.readings.Readings.finish.Given as goal

-- with the endings of those that are left
abbrev pub invariant-loop-reading : goal.invariant-loop-reading
invariant-loop-reading l =
    l.self.endings.items ++ map (ending false) (reading_views l.self.readings.items) ≡ map (ending false) (reading_views l.fn.self.readings.items)

abbrev pub decreases-loop-reading : goal.decreases-loop-reading
decreases-loop-reading l = length l.self.readings.items
