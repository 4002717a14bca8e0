use Rattle.vdm_cli.proofs.Following.{finish_of_journal}
use Rattle.vdm_cli.proofs.laws.the_end_is_the_runs.Goals as goal

pub returns : goal.returns
returns c = finish_of_journal
