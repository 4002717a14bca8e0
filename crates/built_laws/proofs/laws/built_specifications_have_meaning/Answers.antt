use Rattle.built_laws.proofs.Classes.{spec_meant}
use Rattle.built_laws.proofs.laws.built_specifications_have_meaning.Goals as goal

pub returns : goal.returns
returns c = spec_meant
