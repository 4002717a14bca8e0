use Rattle.expr_parts.proofs.Firsts.{maplets-more}
use Rattle.expr_parts.proofs.collections.no_maplets.Goals as goal

pub returns-in_default : goal.returns-in_default
returns-in_default c = maplets-more c.args.maplets.now c.in_default.len_at_least
