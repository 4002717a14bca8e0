-- The passes of a lane: one of each lock, in the order of the locks.
use Rattle.std.specs.Prelude.{◌≡◌, ℕ, ◌<◌, List, length, slice_index_or}
use Rattle.turn_lock.specs.declared.storied.Storied.{Ghosts}
use Rattle.turn_lock.specs.declared.lock.TurnLock.{TurnLock}
use Rattle.turn_lock.specs.declared.pass.TurnPass.{TurnPass}
use Rattle.turn_lock.specs.Passes.{IsPassOf}

-- pass by pass, they are of these locks
pub record ArePassesOf {V E : Type 0} {g : Ghosts V E} (locks : List (TurnLock V E)) (passes : List (TurnPass V E g)) : Type 0 where
  pub as_many : length passes ≡ length locks
  pub each : (k : ℕ) (l : TurnLock V E) (p : TurnPass V E g) → k < length locks
      → IsPassOf (slice_index_or locks k l) (slice_index_or passes k p)
