use Rattle.plans.proofs.Adding.{answers-only-add}
use Rattle.plans.proofs.laws.answers_only_add.Goals as goal

pub returns : goal.returns
returns g c = answers-only-add
