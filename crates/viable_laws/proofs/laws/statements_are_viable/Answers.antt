use Rattle.viable_laws.proofs.Viable.{stmt-viable, stmt-ends}
use Rattle.viable_laws.proofs.laws.statements_are_viable.Goals as goal

pub returns : goal.returns
returns c = record { viable = stmt-viable; whole = stmt-ends }
