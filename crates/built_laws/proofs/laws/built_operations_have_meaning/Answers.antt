use Rattle.built_laws.proofs.Classes.{operation_meant}
use Rattle.built_laws.proofs.laws.built_operations_have_meaning.Goals as goal

pub returns : goal.returns
returns c = operation_meant
