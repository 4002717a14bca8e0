use Rattle.std.proofs.Common.{arith}
use Rattle.call_steps.proofs.Waits.{one_there}
use Rattle.call_steps.proofs.parameters.bracket_at.Goals as goal

pub returns : goal.returns
returns c = one_there c.args.found.now c.args.at c.index-found-at.result (omega (arith, c.if-at-found.false)) c.index-found-at.is
