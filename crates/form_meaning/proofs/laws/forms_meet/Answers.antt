use Rattle.form_meaning.proofs.Symmetric.{symmetric}
use Rattle.form_meaning.proofs.laws.forms_meet.Goals as goal

pub returns-clause-symmetric : goal.returns-clause-symmetric
returns-clause-symmetric c = λ descends classes a b. symmetric descends classes a b
