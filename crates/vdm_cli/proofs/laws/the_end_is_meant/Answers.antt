use Rattle.vdm_cli.proofs.Following.{meant_told, meant_silent}
use Rattle.vdm_cli.proofs.laws.the_end_is_meant.Goals as goal

pub returns-clause-told : goal.returns-clause-told
returns-clause-told c = meant_told

pub returns-clause-silent : goal.returns-clause-silent
returns-clause-silent c = meant_silent
