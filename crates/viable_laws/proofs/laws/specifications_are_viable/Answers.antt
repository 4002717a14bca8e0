use Rattle.viable_laws.proofs.Specifications.{spec-viable, spec-ends}
use Rattle.viable_laws.proofs.laws.specifications_are_viable.Goals as goal

pub returns : goal.returns
returns c = record { viable = spec-viable; whole = spec-ends }
