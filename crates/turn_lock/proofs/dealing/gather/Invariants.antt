use Rattle.std.proofs.Common.{◌≡◌, ◌+◌, ◌<◌, [], ◌++◌, vec_len}
use Rattle.std.specs.Prelude.{All}
use Rattle.turn_lock.specs.declared.view.Stage.TheVariants.{Idle}
use Rattle.turn_lock.specs.Passes.{IsAt, IsIdle, all_own}
use Rattle.turn_lock.proofs.dealing.gather.Given as goal

abbrev pub invariant-loop-other : goal.invariant-loop-other
invariant-loop-other g l = record {
  at : l.seat.table_id ≡ l.top.table_id;
  idle : (l.seat.me.0.stage ≡ Idle) × (l.seat.me.1 ≡ []);
  alive : 0 < l.seat.me.0.passes;
  rest : All (λ p. IsAt l.top.table_id p × IsIdle p) l.passes.items;
  all : l.seat.me.0.passes + vec_len l.passes ≡ vec_len l.fn.passes;
  own : all_own l.passes.items ++ l.seat.me.0.own ≡ all_own l.fn.passes.items;
}

abbrev pub decreases-loop-other : goal.decreases-loop-other
decreases-loop-other g l = goal.left-loop-other g l
