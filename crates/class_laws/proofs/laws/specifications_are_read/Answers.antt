use Rattle.class_laws.proofs.laws.specifications_are_read.Goals as goal
use Rattle.class_laws.proofs.Specifications.{specification-of}

pub returns : goal.returns
returns c = specification-of
