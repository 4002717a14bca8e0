use Rattle.std.proofs.Common.{drop}
use Rattle.plain_state.proofs.Variables.{none-left}
use Rattle.plain_state.proofs.layout.slot_among.Goals as goal

pub returns-in_default : goal.returns-in_default
returns-in_default c = none-left c.args.var (drop c.loop-other.other-index c.args.variables.now) c.loop-other.rest.now _ c.in_default.ensures.cases c.loop-other.invariant
