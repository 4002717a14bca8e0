use Rattle.class_laws.proofs.laws.one_specification.Goals as goal
use Rattle.class_laws.proofs.Specifications.{one-specification}

pub returns : goal.returns
returns c = one-specification
