use Rattle.std.proofs.Common.{arith}
use Rattle.record_steps.proofs.AtPlaces.{set_past, set_there}
use Rattle.record_steps.proofs.placing.with_value.Goals as goal

pub returns-then-place-len : goal.returns-then-place-len
returns-then-place-len c = set_past c.args.value c.args.values.items c.args.place (omega arith)

pub returns : goal.returns
returns c = set_there c.args.value c.args.values.items c.args.place (omega arith)
