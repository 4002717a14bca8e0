use Rattle.std.proofs.Common.{◌≡◌, vec_len}
use Rattle.lock_lanes.specs.Rows.{IsRow}
use Rattle.time_locks.proofs.runs.made.Given as goal

abbrev pub invariant-loop : goal.invariant-loop
invariant-loop l = IsRow l.row × (vec_len l.row.lanes ≡ l.plan.lanes)
