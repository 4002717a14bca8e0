use Rattle.grammar_trees.proofs.Trees.{expr-is}
use Rattle.grammar_trees.proofs.laws.expressions_are_read.Goals as goal

pub returns : goal.returns
returns c = expr-is
