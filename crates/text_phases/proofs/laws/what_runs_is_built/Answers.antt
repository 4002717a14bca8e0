use Rattle.text_phases.proofs.Accepted.{built_specification, built_expression}
use Rattle.text_phases.proofs.laws.what_runs_is_built.Goals as goal

pub returns : goal.returns
returns c = record { specification = built_specification; expression = built_expression }
