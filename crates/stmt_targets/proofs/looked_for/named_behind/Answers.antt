use Rattle.std.proofs.Common.{sym}
use Rattle.stmt_targets.proofs.looked_for.named_behind.Goals as goal

pub returns-in-Some-clause-named : goal.returns-in-Some-clause-named
returns-in-Some-clause-named c = λ names other. c.named_below.ensures.named names other c.args.place _ (sym c.in-Some.ensures)
