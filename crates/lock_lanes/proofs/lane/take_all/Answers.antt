use Rattle.std.proofs.Common.{◌++◌, ◌∷◌, [], ◌<◌, length, sym, subst, arith}
use Rattle.std.specs.Prelude.{All}
use Rattle.std.proofs.lemmas.List.Elements.{All-push}
use Rattle.turn_lock.specs.Passes.{IsPassOf}
use Rattle.lock_lanes.specs.declared.lane.Lane.{Lane}
use Rattle.lock_lanes.specs.Lanes.{ArePassesOf}
use Rattle.lock_lanes.proofs.Turns.{done_set, todo_set}
use Rattle.lock_lanes.proofs.lane.take_all.Goals as goal

pub loop-index-preserved : goal.loop-index-preserved
loop-index-preserved c =
    let inv = c.loop-index.invariant in
    let lanes = c.loop-index.lanes in
    let near : c.loop-index.index < length lanes.items = (let o = lanes.ok.0 in let e = c.loop-index-test.true in omega arith) in record {
      len = inv.len;
      taken = subst (All (IsPassOf c.args.lock.now)) (sym c.in-Ok.ensures.items) (All-push (IsPassOf c.args.lock.now) c.loop-index.taken.items c.in_ok-pass.pass inv.taken c.in_ok-pass.ensures.0);
      count = let n = c.in-Ok.ensures.len in let k = inv.count in omega arith;
      done = done_set (λ (lane : Lane). ArePassesOf c.args.locks.now lane.passes.items) lanes.items c.loop-index.index c.take.new.self near c.in_ok-pass.ensures.1 inv.done;
      todo = todo_set (λ (lane : Lane). ArePassesOf (c.args.locks.now ++ c.args.lock.now ∷ []) lane.passes.items) lanes.items c.loop-index.index c.take.new.self inv.todo;
    }
