use Rattle.vdm_meaning.proofs.Runs.{run_front}
use Rattle.vdm_meaning.proofs.laws.fronts_of_runs_are_runs.Goals as goal

pub returns : goal.returns
returns c = run_front
