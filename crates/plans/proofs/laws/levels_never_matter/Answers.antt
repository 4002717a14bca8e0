use Rattle.plans.proofs.Levels.{levels-never-matter}
use Rattle.plans.proofs.laws.levels_never_matter.Goals as goal

pub returns : goal.returns
returns g c = levels-never-matter
