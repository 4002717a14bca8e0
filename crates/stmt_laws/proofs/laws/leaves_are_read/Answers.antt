use Rattle.stmt_laws.proofs.laws.leaves_are_read.Goals as goal
use Rattle.stmt_laws.proofs.Leaves.{type_leaf, pattern_leaf, expr_leaf}

pub returns : goal.returns
returns c = record { types = type_leaf; patterns = pattern_leaf; expressions = expr_leaf }
