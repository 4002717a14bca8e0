use Rattle.std.proofs.Common.{rules}
use Rattle.stamp_source.proofs.Joining.{joins}
use Rattle.stamp_source.proofs.dealing.join_one.Goals as goal

pub join_seat-requires : goal.join_seat-requires
join_seat-requires c = (c.requires.board.0, c.requires.board.1, c.requires.bare.1, search rules, joins _ _ _ _ _ c.requires.alive.0)
