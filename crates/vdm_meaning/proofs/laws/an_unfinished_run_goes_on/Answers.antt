use Rattle.vdm_meaning.proofs.GoingOn.{run-goes_on}
use Rattle.vdm_meaning.proofs.laws.an_unfinished_run_goes_on.Goals as goal

pub returns : goal.returns
returns c = run-goes_on
