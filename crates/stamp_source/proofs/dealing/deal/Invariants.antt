use Rattle.std.proofs.Common.{◌≡◌, ◌+◌, ◌≤◌, [], vec_len, vec_capacity}
use Rattle.std.specs.Prelude.{All}
use Rattle.stamp_source.specs.Rule.{drawn}
use Rattle.stamp_source.specs.Passes.{IsNewPass}
use Rattle.stamp_source.proofs.dealing.deal.Given as goal

abbrev pub invariant-loop : goal.invariant-loop
invariant-loop l = record {
  at : l.seat.table_id ≡ l.top.table_id;
  cut : l.seat.me ≡ (drawn l.about l.seat.me.0.passes [], []);
  shared : l.seat.me.0.passes + vec_len l.dealt ≡ l.about.passes;
  turn : vec_len l.dealt + 1 ≡ l.counter;
  each : All (IsNewPass l.top.table_id l.about) l.dealt.items;
  room : l.about.passes ≤ vec_capacity l.dealt;
}
