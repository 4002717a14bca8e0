use Rattle.turn_lock.proofs.AnyMoment.{knows_a_beginning}
use Rattle.turn_lock.proofs.laws.each_pass_knows_a_beginning.Goals as goal

pub returns : goal.returns
returns g c s kept = knows_a_beginning g.V.Storied.story g.V.Storied.adds_up _ _ s kept
