use Rattle.stmt_laws.proofs.laws.statements_are_read.Goals as goal
use Rattle.stmt_laws.proofs.Statements.{statement-read, statement-of}

pub returns : goal.returns
returns c = record { before = statement-read; whole = statement-of }
