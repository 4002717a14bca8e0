use Rattle.std.proofs.Common.{ap, rules}
use Rattle.turn_lock.proofs.Cutting.{splits}
use Rattle.turn_lock.proofs.dealing.cut_one.Goals as goal

pub split_seat-requires : goal.split_seat-requires
split_seat-requires g c =
    let is = c.requires.fresh in (
      c.requires.board.0,
      search rules,
      splits g.V.Storied.story g.V.Storied.adds_up _ _ _ _ c.requires.several (ap (λ m. m.0.stage) is) (ap (λ m. m.0.draws) is) (ap (λ m. m.0.own) is),
    )
