use Rattle.built_laws.proofs.Classes.{function_meant}
use Rattle.built_laws.proofs.laws.built_functions_have_meaning.Goals as goal

pub returns : goal.returns
returns c = function_meant
