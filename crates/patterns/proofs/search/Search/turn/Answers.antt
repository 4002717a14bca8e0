use Rattle.std.proofs.Common.{refl}
use Rattle.patterns.proofs.Steps.{ends_found, ends_later}
use Rattle.patterns.proofs.search.Search.turn.Goals as goal

pub returns-in_default : goal.returns-in_default
returns-in_default g c = ends_found _ _ _ c.in_default.ensures refl refl c.requires

pub returns : goal.returns
returns g c =
    ends_later _ _ _ _ _ _ _ _ c.in-Some.ensures refl refl refl c.in_ok-on.ensures (c.end_turn.ensures _)
