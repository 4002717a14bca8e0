use Rattle.std.proofs.Common.{◌++◌, ◌∷◌, [], subst, sym}
use Rattle.lock_lanes.specs.Lanes.{ArePassesOf}
use Rattle.lock_lanes.proofs.Rows.{passes_push}
use Rattle.lock_lanes.proofs.lane.Lane.give.Goals as goal

pub returns : goal.returns
returns c = subst (ArePassesOf (c.args._locks.now ++ c.args._lock.now ∷ [])) (sym c.in-Ok.ensures.items) (passes_push _ _ _ _ c.requires.passes c.requires.pass)
