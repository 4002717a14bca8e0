use Rattle.record_steps.proofs.AtPlaces.{value_past, value_there}
use Rattle.record_steps.proofs.placing.value_at.Goals as goal

pub returns-then-place-values : goal.returns-then-place-values
returns-then-place-values c = value_past c.args.values.now c.args.place c.if-place-values.true

pub returns : goal.returns
returns c = value_there c.args.values.now c.args.place c.index-values-place.result c.if-place-values.false c.index-values-place.is
