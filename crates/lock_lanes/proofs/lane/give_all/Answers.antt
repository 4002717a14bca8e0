use Rattle.std.proofs.Common.{◌++◌, ◌∷◌, [], ◌<◌, length, subst, arith}
use Rattle.std.specs.Prelude.{All}
use Rattle.turn_lock.specs.Passes.{IsPassOf}
use Rattle.turn_lock.proofs.Piles.{all_popped}
use Rattle.lock_lanes.specs.declared.lane.Lane.{Lane}
use Rattle.lock_lanes.specs.Lanes.{ArePassesOf}
use Rattle.lock_lanes.proofs.Turns.{done_set, todo_set}
use Rattle.lock_lanes.proofs.lane.give_all.Goals as goal

pub loop-index-preserved : goal.loop-index-preserved
loop-index-preserved c =
    let inv = c.loop-index.invariant in
    let lanes = c.loop-index.lanes in
    let near : c.loop-index.index < length lanes.items = (let o = lanes.ok.0 in let e = c.loop-index-test.true in omega arith) in record {
      len = inv.len;
      rest = (all_popped (IsPassOf c.args.lock.now) c.pop.new.self.items c.in_ok-pass.pass (subst (All (IsPassOf c.args.lock.now)) c.in_ok-pass.ensures.items inv.rest)).0;
      done = done_set (λ (lane : Lane). ArePassesOf (c.args.locks.now ++ c.args.lock.now ∷ []) lane.passes.items) lanes.items c.loop-index.index c.give.new.self near c.in_ok-give.ensures inv.done;
      todo = todo_set (λ (lane : Lane). ArePassesOf c.args.locks.now lane.passes.items) lanes.items c.loop-index.index c.give.new.self inv.todo;
    }
