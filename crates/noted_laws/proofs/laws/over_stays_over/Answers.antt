use Rattle.noted_laws.proofs.Staying.{main-stays}
use Rattle.noted_laws.proofs.laws.over_stays_over.Goals as goal

pub returns : goal.returns
returns c = main-stays
