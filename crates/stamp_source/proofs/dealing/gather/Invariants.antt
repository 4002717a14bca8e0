use Rattle.std.proofs.Common.{◌≡◌, ◌+◌, ◌<◌, [], ◌++◌, vec_len}
use Rattle.std.specs.Prelude.{All}
use Rattle.stamp_source.specs.Passes.{IsAt, all_numbers}
use Rattle.stamp_source.proofs.dealing.gather.Given as goal

abbrev pub invariant-loop-other : goal.invariant-loop-other
invariant-loop-other l = record {
  at : l.seat.table_id ≡ l.top.table_id;
  bare : l.seat.me.1 ≡ [];
  alive : 0 < l.seat.me.0.passes;
  rest : All (IsAt l.top.table_id) l.passes.items;
  all : l.seat.me.0.passes + vec_len l.passes ≡ vec_len l.fn.passes;
  numbers : all_numbers l.passes.items ++ l.seat.me.0.numbers ≡ all_numbers l.fn.passes.items;
}

abbrev pub decreases-loop-other : goal.decreases-loop-other
decreases-loop-other l = goal.left-loop-other l
