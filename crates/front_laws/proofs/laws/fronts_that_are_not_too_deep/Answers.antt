use Rattle.front_laws.proofs.DeepTrees.{type-depth, pattern-depth, expr-depth}
use Rattle.front_laws.proofs.laws.fronts_that_are_not_too_deep.Goals as goal

pub returns : goal.returns
returns c = record { types = type-depth; patterns = pattern-depth; expressions = expr-depth }
