use Rattle.std.proofs.Common.{◌≡◌, [], vec_len}
use Rattle.std.specs.Prelude.{All}
use Rattle.lock_lanes.specs.Lanes.{ArePassesOf}
use Rattle.lock_lanes.proofs.row.Row.new.Given as goal

abbrev pub invariant-loop-number : goal.invariant-loop-number
invariant-loop-number l = (vec_len l.lanes ≡ l.number) × All (λ lane. ArePassesOf [] lane.passes.items) l.lanes.items
