use Rattle.stmt_laws.proofs.laws.what_is_read_is_a_statement.Goals as goal
use Rattle.stmt_laws.proofs.Sound.{statement_found}

pub returns : goal.returns
returns c = statement_found
