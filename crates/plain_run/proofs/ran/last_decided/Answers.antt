use Rattle.std.proofs.Common.{sym, ◌∙◌}
use Rattle.plain_run.proofs.Endings.{decides-last}
use Rattle.plain_run.proofs.ran.last_decided.Goals as goal

pub returns-in-Some : goal.returns-in-Some
returns-in-Some c = decides-last c.args.entries.now _ _ (sym c.as_slice.ensures ∙ c.in-Some.ensures.cases.0) c.decided.result c.decided.ensures
