use Rattle.stmt_laws.proofs.laws.one_statement.Goals as goal
use Rattle.stmt_laws.proofs.Statements.{one-statement}

pub returns : goal.returns
returns c = one-statement
