use Rattle.std.proofs.Common.{ap}
use Rattle.patterns.specs.Todos.{subject_tree}
use Rattle.patterns.proofs.Lists.{told_sequences}
use Rattle.patterns.proofs.subject.Subject.is.Goals as goal

pub returns-in-Part-Part : goal.returns-in-Part-Part
returns-in-Part-Part c =
    told_sequences _ _ _ _ _ (ap subject_tree c.in-Part-Part.is-0) (ap subject_tree c.in-Part-Part.is-1) c.are_values.ensures
