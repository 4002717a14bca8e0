use Rattle.abstract_syntax.specs.Values.{value_trees-value_list, pair_trees-pair_list}
use Rattle.abstract_syntax.proofs.values.parts_are_kept.Goals as goal

pub returns-clause-values : goal.returns-clause-values
returns-clause-values c = value_trees-value_list

pub returns-clause-pairs : goal.returns-clause-pairs
returns-clause-pairs c = pair_trees-pair_list
