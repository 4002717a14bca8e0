use Rattle.turn_lock.proofs.AnyMoment.{has_own_number}
use Rattle.turn_lock.proofs.laws.one_turn_at_a_time.Goals as goal

pub returns : goal.returns
returns g c s kept = has_own_number g.V.Storied.story g.V.Storied.adds_up _ _ s kept
