use Rattle.std.proofs.Common.{ap, rules}
use Rattle.stamp_source.proofs.Cutting.{splits}
use Rattle.stamp_source.proofs.dealing.cut_one.Goals as goal

pub split_seat-requires : goal.split_seat-requires
split_seat-requires c = (c.requires.board.0, search rules, splits _ _ _ c.requires.several (ap (λ m. m.0.numbers) c.requires.fresh))
