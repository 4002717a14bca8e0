use Rattle.std.proofs.Common.{sym}
use Rattle.check_names.proofs.Notes.{if_ok}
use Rattle.check_names.proofs.names.read_qualified.Goals as goal

pub returns-in-Some : goal.returns-in-Some
returns-in-Some c = if_ok c.read_behind.result c.read_behind.ensures (λ form is names. is names c.args.place _ (sym c.in-Some.ensures))
