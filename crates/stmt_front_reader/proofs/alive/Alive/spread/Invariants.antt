use Rattle.std.proofs.Common.{◌≡◌, length, List}
use Rattle.stmt_fronts.specs.Fronts.{Reading}
use Rattle.stmt_front_reader.specs.declared.alive.Held.{Held}
use Rattle.stmt_front_reader.specs.declared.readings.Readings.{Readings}
use Rattle.stmt_front_reader.specs.Held.{spread, spread_on}
use Rattle.stmt_front_reader.specs.Views.{reading_views}
use Rattle.stmt_front_reader.proofs.alive.Alive.spread.Given as goal

-- behind those that were taken, the rest
pub record Spreading (all : List Reading) (rest old : List Held) (readings before : Readings) : Type 0 where
  pub spreads : spread_on all rest ≡ spread old
  pub same : readings ≡ before

abbrev pub invariant-loop-held : goal.invariant-loop-held
invariant-loop-held l =
    Spreading (reading_views l.all.readings.items) l.self.held.items l.fn.self.held.items l.self.readings l.fn.self.readings

abbrev pub decreases-loop-held : goal.decreases-loop-held
decreases-loop-held l = length l.self.held.items
