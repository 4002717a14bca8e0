use Rattle.std.proofs.Common.{refl}
use Rattle.abstract_syntax.specs.SameBy.{same_by}
use Rattle.pattern_meaning.proofs.worked.records_and_brackets.Goals as goal

pub returns-clause-own : goal.returns-clause-own
unfolding same_by
returns-clause-own c = refl

pub returns-clause-other : goal.returns-clause-other
unfolding same_by
returns-clause-other c = refl

pub returns-clause-other_class : goal.returns-clause-other_class
unfolding same_by
returns-clause-other_class c = refl

pub returns-clause-no_type : goal.returns-clause-no_type
unfolding same_by
returns-clause-no_type c = refl

pub returns-clause-fields : goal.returns-clause-fields
unfolding same_by
returns-clause-fields c = refl

pub returns-clause-given : goal.returns-clause-given
unfolding same_by
returns-clause-given c = refl

pub returns-clause-not_given : goal.returns-clause-not_given
unfolding same_by
returns-clause-not_given c = refl

pub returns-clause-repeated : goal.returns-clause-repeated
unfolding same_by
returns-clause-repeated c = refl

pub returns-clause-unequal : goal.returns-clause-unequal
unfolding same_by
returns-clause-unequal c = refl
