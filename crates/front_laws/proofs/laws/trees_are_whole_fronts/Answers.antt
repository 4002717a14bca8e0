use Rattle.front_laws.proofs.Whole.{type-whole, pattern-whole, expr-whole}
use Rattle.front_laws.proofs.laws.trees_are_whole_fronts.Goals as goal

pub returns : goal.returns
returns c = record { types = type-whole; patterns = pattern-whole; expressions = expr-whole }
