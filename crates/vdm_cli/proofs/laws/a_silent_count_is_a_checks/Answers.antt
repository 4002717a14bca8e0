use Rattle.vdm_cli.proofs.Following.{silent_check}
use Rattle.vdm_cli.proofs.laws.a_silent_count_is_a_checks.Goals as goal

pub returns : goal.returns
returns c = silent_check
