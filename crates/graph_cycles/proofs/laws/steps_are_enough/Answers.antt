use Rattle.graph_cycles.proofs.Enough.{enough}
use Rattle.graph_cycles.proofs.laws.steps_are_enough.Goals as goal

pub returns : goal.returns
returns c = λ g a b steps in_range. enough g in_range a steps b
