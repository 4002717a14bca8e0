use Rattle.plans.proofs.Levels.{equation}
use Rattle.plans.proofs.laws.equation.Goals as goal

pub returns : goal.returns
returns g c = equation
