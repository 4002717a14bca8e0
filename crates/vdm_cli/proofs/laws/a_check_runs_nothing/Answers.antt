use Rattle.vdm_cli.proofs.Following.{check_unfinished}
use Rattle.vdm_cli.proofs.laws.a_check_runs_nothing.Goals as goal

pub returns : goal.returns
returns c = check_unfinished
