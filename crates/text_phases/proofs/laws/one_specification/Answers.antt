use Rattle.text_phases.proofs.Decided.{specification_decided}
use Rattle.text_phases.proofs.laws.one_specification.Goals as goal

pub returns-clause-decided : goal.returns-clause-decided
returns-clause-decided c = specification_decided
