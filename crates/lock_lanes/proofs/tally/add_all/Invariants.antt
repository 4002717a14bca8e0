use Rattle.std.proofs.Common.{◌≡◌, ◌≤◌, length}
use Rattle.turn_lock.specs.Passes.{IsPassOf, own}
use Rattle.lock_lanes.proofs.tally.add_all.Given as goal

abbrev pub invariant-loop : goal.invariant-loop
invariant-loop g l = IsPassOf l.lock l.pass × (length (own l.pass) ≡ l.raised) × (l.raised ≤ l.counter)
