-- A row: each lane has a pass of each lock, and each lock has as many passes as there are lanes.
use Rattle.std.specs.Prelude.{◌≡◌, All, vec_len}
use Rattle.turn_lock.specs.Passes.{lock_passes}
use Rattle.lock_lanes.specs.declared.row.Row.{Row}
use Rattle.lock_lanes.specs.Lanes.{ArePassesOf}

pub record IsRow (row : Row) : Type 0 where
  pub lanes : All (λ lane. ArePassesOf row.locks.items lane.passes.items) row.lanes.items
  pub locks : All (λ lock. lock_passes lock ≡ vec_len row.lanes) row.locks.items
