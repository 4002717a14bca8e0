use Rattle.std.proofs.Common.{rules}
use Rattle.turn_lock.proofs.Joining.{joins}
use Rattle.turn_lock.proofs.dealing.join_one.Goals as goal

pub join_seat-requires : goal.join_seat-requires
join_seat-requires g c =
    let board = c.requires.board in let idle = c.requires.idle in (
      board.0,
      board.1,
      idle.3,
      search rules,
      joins g.V.Storied.story g.V.Storied.adds_up _ _ _ _ _ _ c.requires.alive.0 idle.0 idle.1,
    )
