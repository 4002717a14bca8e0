use Rattle.built_laws.proofs.AskedFor.{asked_there}
use Rattle.built_laws.proofs.laws.invariants_that_are_asked_for_are_there.Goals as goal

pub returns : goal.returns
returns c = asked_there
