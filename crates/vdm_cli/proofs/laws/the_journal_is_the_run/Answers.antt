use Rattle.vdm_cli.proofs.Following.{journal_is_the_run}
use Rattle.vdm_cli.proofs.laws.the_journal_is_the_run.Goals as goal

pub returns : goal.returns
returns c = journal_is_the_run
