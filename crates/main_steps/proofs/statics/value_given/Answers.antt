use Rattle.main_steps.proofs.Numbers.{below_waiting}
use Rattle.main_steps.proofs.statics.value_given.Goals as goal

pub returns-clause-falls : goal.returns-clause-falls
returns-clause-falls c = below_waiting c.evaluate_statics.result _ c.evaluate_statics.ensures.falls
