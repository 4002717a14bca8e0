use Rattle.std.proofs.Common.{refl}
use Rattle.abstract_syntax.specs.SameBy.{same_by}
use Rattle.type_meaning.proofs.worked.maps_and_objects.Goals as goal

pub returns-clause-twice : goal.returns-clause-twice
unfolding same_by
returns-clause-twice c = refl

pub returns-clause-once : goal.returns-clause-once
unfolding same_by
returns-clause-once c = refl
