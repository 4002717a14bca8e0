use Rattle.std.proofs.Common.{Some}
use Rattle.check_calls.proofs.selection.also_found.Goals as goal

pub returns : goal.returns
returns c = λ i. record { found = Some (c.in_ok-found.ensures i); refused = c.args.known.refused }
