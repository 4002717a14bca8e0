use Rattle.class_meaning.proofs.Ranges.{class_graph_in_range, type_graph_in_range}
use Rattle.class_meaning.proofs.laws.graphs_in_range.Goals as goal

pub returns-clause-classes : goal.returns-clause-classes
returns-clause-classes c = λ spec. class_graph_in_range spec

pub returns-clause-types : goal.returns-clause-types
returns-clause-types c = λ spec. type_graph_in_range spec
