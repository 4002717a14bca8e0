use Rattle.value_operators.proofs.Lists.{has_decides}
use Rattle.value_operators.proofs.laws.membership_is_decided.Goals as goal

pub returns : goal.returns
returns c = has_decides
