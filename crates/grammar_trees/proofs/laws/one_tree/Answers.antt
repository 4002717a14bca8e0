use Rattle.grammar_trees.proofs.Trees.{one_tree}
use Rattle.grammar_trees.proofs.laws.one_tree.Goals as goal

pub returns : goal.returns
returns c = one_tree
