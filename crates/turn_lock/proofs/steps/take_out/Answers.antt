use Rattle.std.proofs.Common.{Some, refl}
use Rattle.turn_lock.proofs.steps.take_out.Goals as goal

pub exchange-requires : goal.exchange-requires
exchange-requires g c = (c.requires.board.0, (Some c.requires.slot.0, rw c.requires.slot.1 refl))
