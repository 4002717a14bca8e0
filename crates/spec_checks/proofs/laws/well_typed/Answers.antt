use Rattle.class_checks.proofs.Firsts.{none_first}
use Rattle.spec_checks.specs.Definitions.{spec_faults}
use Rattle.spec_checks.proofs.laws.well_typed.Goals as goal

pub returns : goal.returns
returns c = λ spec. none_first (spec_faults spec)
