use Rattle.std.proofs.Common.{refl}
use Rattle.value_operators.specs.Outcomes.{sized}
use Rattle.abstract_syntax.specs.SameBy.{same_by}
use Rattle.value_operators.proofs.worked.worked_numbers.Goals as goal

pub returns-clause-divides : goal.returns-clause-divides
unfolding sized same_by
returns-clause-divides c = refl

pub returns-clause-remains : goal.returns-clause-remains
unfolding sized same_by
returns-clause-remains c = refl

pub returns-clause-modulo : goal.returns-clause-modulo
unfolding sized same_by
returns-clause-modulo c = refl

pub returns-clause-divides_back : goal.returns-clause-divides_back
unfolding sized same_by
returns-clause-divides_back c = refl

pub returns-clause-remains_back : goal.returns-clause-remains_back
unfolding sized same_by
returns-clause-remains_back c = refl

pub returns-clause-modulo_back : goal.returns-clause-modulo_back
unfolding sized same_by
returns-clause-modulo_back c = refl

pub returns-clause-divides_both : goal.returns-clause-divides_both
unfolding sized same_by
returns-clause-divides_both c = refl

pub returns-clause-modulo_both : goal.returns-clause-modulo_both
unfolding sized same_by
returns-clause-modulo_both c = refl

pub returns-clause-by_zero : goal.returns-clause-by_zero
unfolding sized same_by
returns-clause-by_zero c = refl

pub returns-clause-least : goal.returns-clause-least
unfolding sized same_by
returns-clause-least c = refl

pub returns-clause-beyond : goal.returns-clause-beyond
unfolding sized same_by
returns-clause-beyond c = refl

pub returns-clause-nothing : goal.returns-clause-nothing
unfolding sized same_by
returns-clause-nothing c = refl

pub returns-clause-below : goal.returns-clause-below
unfolding sized same_by
returns-clause-below c = refl

pub returns-clause-greatest : goal.returns-clause-greatest
unfolding sized same_by
returns-clause-greatest c = refl

pub returns-clause-turned : goal.returns-clause-turned
unfolding sized same_by
returns-clause-turned c = refl

pub returns-clause-kinds : goal.returns-clause-kinds
unfolding sized same_by
returns-clause-kinds c = refl

pub returns-clause-different : goal.returns-clause-different
unfolding sized same_by
returns-clause-different c = refl
