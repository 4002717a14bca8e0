use Rattle.class_index.proofs.Ranges.{as_many_nodes, in_range}
use Rattle.class_index.proofs.laws.class_graph_is_in_range.Goals as goal

pub returns-clause-nodes : goal.returns-clause-nodes
returns-clause-nodes c = as_many_nodes

pub returns-clause-in_range : goal.returns-clause-in_range
returns-clause-in_range c = in_range
