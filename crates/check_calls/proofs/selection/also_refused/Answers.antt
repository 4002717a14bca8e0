use Rattle.std.proofs.Common.{option_map, sym}
use Rattle.check_calls.specs.Selecting.{found_view}
use Rattle.check_calls.proofs.selection.also_refused.Goals as goal

pub returns : goal.returns
returns c = λ i. record { found = option_map found_view c.args.known.found; refused = sym c.either_first.ensures i }
