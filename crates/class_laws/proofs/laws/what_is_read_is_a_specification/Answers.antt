use Rattle.class_laws.proofs.laws.what_is_read_is_a_specification.Goals as goal
use Rattle.class_laws.proofs.SoundClasses.{specification_found}

pub returns : goal.returns
returns c = specification_found
