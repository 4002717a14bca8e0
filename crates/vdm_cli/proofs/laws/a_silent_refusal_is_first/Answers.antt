use Rattle.vdm_cli.proofs.Following.{silent_refusal}
use Rattle.vdm_cli.proofs.laws.a_silent_refusal_is_first.Goals as goal

pub returns : goal.returns
returns c = silent_refusal
