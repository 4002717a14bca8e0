use Rattle.plans.proofs.Bound.{questions-are-bounded}
use Rattle.plans.proofs.laws.questions_are_bounded.Goals as goal

pub returns : goal.returns
returns g c = questions-are-bounded
