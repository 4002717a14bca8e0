use Rattle.std.proofs.Common.{◌≡◌, ℕ, ◌<◌, ◌≤◌, [], ◌∷◌, ◌++◌, length, get_or, vec_len}
use Rattle.std.specs.Prelude.{All}
use Rattle.turn_lock.specs.Passes.{IsPassOf}
use Rattle.lock_lanes.specs.declared.lane.Lane.{Lane}
use Rattle.lock_lanes.specs.Lanes.{ArePassesOf}
use Rattle.lock_lanes.proofs.lane.take_all.Given as goal

abbrev pub invariant-loop-index : goal.invariant-loop-index
invariant-loop-index l = record {
  len : vec_len l.lanes ≡ vec_len l.fn.lanes;
  taken : All (IsPassOf l.lock) l.taken.items;
  count : vec_len l.taken ≡ l.index;
  done : (j : ℕ) (d : Lane) → j < l.index → ArePassesOf l.locks (get_or l.lanes.items j d).passes.items;
  todo : (j : ℕ) (d : Lane) → l.index ≤ j → j < length l.lanes.items → ArePassesOf (l.locks ++ l.lock ∷ []) (get_or l.lanes.items j d).passes.items;
}
