use Rattle.std.proofs.Common.{length}
use Rattle.graph_cycles.proofs.Paths.{settled-no_cycle, settled-beyond}
use Rattle.graph_cycles.proofs.laws.settled_nodes.Goals as goal

pub returns-clause-itself : goal.returns-clause-itself
returns-clause-itself c = λ g a s. settled-no_cycle g (length g) (length g) a s

pub returns-clause-beyond : goal.returns-clause-beyond
returns-clause-beyond c = λ g a b steps s t. settled-beyond g (length g) steps (length g) a b s t
