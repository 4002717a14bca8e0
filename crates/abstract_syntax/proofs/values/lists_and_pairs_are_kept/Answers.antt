use Rattle.abstract_syntax.specs.Values.{value_list-value_trees, pair_list-pair_trees}
use Rattle.abstract_syntax.proofs.values.lists_and_pairs_are_kept.Goals as goal

pub returns-clause-values : goal.returns-clause-values
returns-clause-values c = value_list-value_trees

pub returns-clause-pairs : goal.returns-clause-pairs
returns-clause-pairs c = pair_list-pair_trees
