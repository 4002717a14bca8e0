use Rattle.class_meaning.specs.Classes.{class_graph}
use Rattle.class_meaning.proofs.Walks.{ancestors_apart, ancestors_has, ancestors_equation, not_above, more_above}
use Rattle.class_meaning.proofs.laws.ancestors_of_classes.Goals as goal

pub returns-clause-apart : goal.returns-clause-apart
returns-clause-apart c = λ spec k. ancestors_apart (class_graph spec) k

pub returns-clause-has : goal.returns-clause-has
returns-clause-has c = λ spec k a. ancestors_has (class_graph spec) k a

pub returns-clause-by_superclasses : goal.returns-clause-by_superclasses
returns-clause-by_superclasses c = λ spec k t. ancestors_equation (class_graph spec) k t

pub returns-clause-above : goal.returns-clause-above
returns-clause-above c = λ spec k s t is. not_above (class_graph spec) k s t is

pub returns-clause-kept : goal.returns-clause-kept
returns-clause-kept c = λ spec k s a t is in_it. more_above (class_graph spec) k s a t is in_it
