use Rattle.lock_lanes.specs.Rows.{IsRow}
use Rattle.time_locks.proofs.runs.closed.Given as goal

abbrev pub invariant-loop-behind : goal.invariant-loop-behind
invariant-loop-behind l = IsRow l.row
