use Rattle.vdm_meaning.proofs.OneRun.{one_finished_run}
use Rattle.vdm_meaning.proofs.laws.a_finished_run_has_one_end.Goals as goal

pub returns : goal.returns
returns c = one_finished_run
