use Rattle.built_laws.proofs.Classes.{type_meant}
use Rattle.built_laws.proofs.laws.built_types_have_meaning.Goals as goal

pub returns : goal.returns
returns c = type_meant
