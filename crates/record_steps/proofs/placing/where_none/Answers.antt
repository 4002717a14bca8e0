use Rattle.record_steps.proofs.AtPlaces.{more_left}
use Rattle.record_steps.proofs.placing.where_none.Goals as goal

pub returns-in-len1-up : goal.returns-in-len1-up
returns-in-len1-up c = λ fields. more_left c.args.left.now fields c.args.values.items c.in-len1-up.len_at_least
