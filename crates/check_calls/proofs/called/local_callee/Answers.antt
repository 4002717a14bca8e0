use Rattle.std.proofs.Common.{[], refl}
use Rattle.check_names.proofs.Notes.{if_ok}
use Rattle.check_calls.proofs.called.local_callee.Goals as goal

pub returns : goal.returns
returns c = if_ok c.value_callee.result c.value_callee.ensures (λ callee is. is _ [] refl refl)
