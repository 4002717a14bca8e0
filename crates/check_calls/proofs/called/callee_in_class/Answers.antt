use Rattle.std.proofs.Common.{sym}
use Rattle.check_names.proofs.Notes.{if_ok}
use Rattle.check_calls.proofs.called.callee_in_class.Goals as goal

pub returns-in-Some : goal.returns-in-Some
returns-in-Some c = if_ok c.callee_there.result c.callee_there.ensures (λ callee is names. is names _ (sym c.in-Some.ensures))
