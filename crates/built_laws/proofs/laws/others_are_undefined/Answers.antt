use Rattle.built_laws.proofs.Plans.{no_plan, not_called}
use Rattle.built_laws.proofs.laws.others_are_undefined.Goals as goal

pub returns-clause-expressions : goal.returns-clause-expressions
returns-clause-expressions c = no_plan

pub returns-clause-calls : goal.returns-clause-calls
returns-clause-calls c = not_called
