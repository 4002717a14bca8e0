use Rattle.plans.proofs.Taking.{only-takes}
use Rattle.plans.proofs.laws.only_takes.Goals as goal

pub returns : goal.returns
returns g c = only-takes
