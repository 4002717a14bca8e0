use Rattle.noted_laws.proofs.Staying.{no-need}
use Rattle.noted_laws.proofs.laws.main_has_no_need.Goals as goal

pub returns : goal.returns
returns c = no-need
