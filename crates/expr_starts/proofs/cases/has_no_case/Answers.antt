use Rattle.expr_starts.proofs.Emptiness.{cases-more}
use Rattle.expr_starts.proofs.cases.has_no_case.Goals as goal

pub returns-in_default : goal.returns-in_default
returns-in_default c = cases-more c.args.cases.now c.in_default.len_at_least
