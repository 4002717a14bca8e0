use Rattle.vdm_meaning.proofs.OneRun.{one_run}
use Rattle.vdm_meaning.proofs.laws.one_run.Goals as goal

pub returns : goal.returns
returns c = one_run
