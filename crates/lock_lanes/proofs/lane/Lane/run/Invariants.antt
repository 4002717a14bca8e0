use Rattle.std.proofs.Common.{◌<◌, length}
use Rattle.lock_lanes.specs.Lanes.{ArePassesOf}
use Rattle.lock_lanes.proofs.lane.Lane.run.Given as goal

abbrev pub invariant-loop-number : goal.invariant-loop-number
invariant-loop-number g l = ArePassesOf l.locks l.self.passes.items × (l.at < length l.locks)
