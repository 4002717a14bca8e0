use Rattle.plans.proofs.Binding.{bind-follows}
use Rattle.plans.proofs.laws.bind_follows.Goals as goal

pub returns : goal.returns
returns g c = bind-follows
