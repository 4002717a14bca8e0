use Rattle.vdm_meaning.proofs.Finishing.{finished_run}
use Rattle.vdm_meaning.proofs.laws.a_finished_run_exists.Goals as goal

pub returns : goal.returns
returns c = finished_run
