use Rattle.turn_lock.proofs.Piles.{all_notes}
use Rattle.turn_lock.proofs.lock.TurnLock.close.Goals as goal

pub returns-clause-whole : goal.returns-clause-whole
returns-clause-whole g c = all_notes _ _ _ _ c.gather-seat.ensures.own c.end.ensures.whole
