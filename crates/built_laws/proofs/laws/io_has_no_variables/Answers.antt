use Rattle.built_laws.proofs.OfIo.{io_undefined}
use Rattle.built_laws.proofs.Plans.{not_written}
use Rattle.built_laws.proofs.laws.io_has_no_variables.Goals as goal

pub returns-clause-values : goal.returns-clause-values
returns-clause-values c = io_undefined

pub returns-clause-targets : goal.returns-clause-targets
returns-clause-targets c = not_written
