use Rattle.lock_lanes.proofs.Rows.{passes_pop}
use Rattle.lock_lanes.proofs.lane.Lane.take.Goals as goal

pub returns : goal.returns
returns c = passes_pop _ _ _ _ _ c.in_ok-pass.ensures.items c.requires
