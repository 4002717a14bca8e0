use Rattle.expr_starts.proofs.Emptiness.{patterns-more}
use Rattle.expr_starts.proofs.lists.has_no_pattern.Goals as goal

pub returns-in_default : goal.returns-in_default
returns-in_default c = patterns-more c.args.items.now c.in_default.len_at_least
