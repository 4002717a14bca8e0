use Rattle.std.proofs.Common.{◌≡◌, ◌+◌, ◌≤◌, [], vec_len, vec_capacity}
use Rattle.std.specs.Prelude.{All}
use Rattle.turn_lock.specs.Views.{fresh}
use Rattle.turn_lock.specs.Passes.{IsNewPass}
use Rattle.turn_lock.proofs.dealing.deal.Given as goal

abbrev pub invariant-loop : goal.invariant-loop
invariant-loop g l = record {
  at : l.seat.table_id ≡ l.top.table_id;
  cut : l.seat.me ≡ (fresh l.seat.me.0.passes l.fn.seat.me.0.base, []);
  shared : l.seat.me.0.passes + vec_len l.dealt ≡ l.passes;
  turn : vec_len l.dealt + 1 ≡ l.counter;
  each : All (IsNewPass l.top.table_id l.fn.seat.me.0.base) l.dealt.items;
  room : l.passes ≤ vec_capacity l.dealt;
}
