use Rattle.std.proofs.Common.{refl}
use Rattle.abstract_syntax.specs.SameBy.{same_by}
use Rattle.pattern_meaning.proofs.worked.fronts.Goals as goal

pub returns-clause-shortest : goal.returns-clause-shortest
unfolding same_by
returns-clause-shortest c = refl

pub returns-clause-middle : goal.returns-clause-middle
unfolding same_by
returns-clause-middle c = refl

pub returns-clause-halves : goal.returns-clause-halves
unfolding same_by
returns-clause-halves c = refl

pub returns-clause-no_halves : goal.returns-clause-no_halves
unfolding same_by
returns-clause-no_halves c = refl

pub returns-clause-too_short : goal.returns-clause-too_short
unfolding same_by
returns-clause-too_short c = refl

pub returns-clause-no_sequence : goal.returns-clause-no_sequence
unfolding same_by
returns-clause-no_sequence c = refl
