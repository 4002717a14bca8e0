use Rattle.grammar_trees.proofs.Trees.{one_pattern}
use Rattle.grammar_trees.proofs.laws.one_pattern.Goals as goal

pub returns : goal.returns
returns c = one_pattern
