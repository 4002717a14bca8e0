use Rattle.turn_lock.proofs.AnyMoment.{has_every_note}
use Rattle.turn_lock.proofs.laws.free_value_has_every_note.Goals as goal

pub returns : goal.returns
returns g c s kept = has_every_note g.V.Storied.story g.V.Storied.adds_up _ _ s kept
