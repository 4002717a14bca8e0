use Rattle.std.proofs.Common.{refl}
use Rattle.value_operators.specs.Outcomes.{sized}
use Rattle.abstract_syntax.specs.SameBy.{same_by}
use Rattle.value_operators.proofs.worked.worked_sets.Goals as goal

pub returns-clause-union : goal.returns-clause-union
unfolding sized same_by
returns-clause-union c = refl

pub returns-clause-inter : goal.returns-clause-inter
unfolding sized same_by
returns-clause-inter c = refl

pub returns-clause-difference : goal.returns-clause-difference
unfolding sized same_by
returns-clause-difference c = refl

pub returns-clause-proper : goal.returns-clause-proper
unfolding sized same_by
returns-clause-proper c = refl

pub returns-clause-subset : goal.returns-clause-subset
unfolding sized same_by
returns-clause-subset c = refl

pub returns-clause-member : goal.returns-clause-member
unfolding sized same_by
returns-clause-member c = refl

pub returns-clause-backward : goal.returns-clause-backward
unfolding sized same_by
returns-clause-backward c = refl

pub returns-clause-forward : goal.returns-clause-forward
unfolding sized same_by
returns-clause-forward c = refl

pub returns-clause-powers : goal.returns-clause-powers
unfolding sized same_by
returns-clause-powers c = refl

pub returns-clause-unions : goal.returns-clause-unions
unfolding sized same_by
returns-clause-unions c = refl

pub returns-clause-inters : goal.returns-clause-inters
unfolding sized same_by
returns-clause-inters c = refl

pub returns-clause-no_sets : goal.returns-clause-no_sets
unfolding sized same_by
returns-clause-no_sets c = refl

pub returns-clause-no_set : goal.returns-clause-no_set
unfolding sized same_by
returns-clause-no_set c = refl
