use Rattle.grammar_trees.proofs.Trees.{pattern-is}
use Rattle.grammar_trees.proofs.laws.patterns_are_read.Goals as goal

pub returns : goal.returns
returns c = pattern-is
