use Rattle.std.proofs.Common.{refl}
use Rattle.abstract_syntax.specs.SameBy.{same_by}
use Rattle.pattern_meaning.proofs.worked.sets_and_maps.Goals as goal

pub returns-clause-in_order : goal.returns-clause-in_order
unfolding same_by
returns-clause-in_order c = refl

pub returns-clause-literal : goal.returns-clause-literal
unfolding same_by
returns-clause-literal c = refl

pub returns-clause-one_name : goal.returns-clause-one_name
unfolding same_by
returns-clause-one_name c = refl

pub returns-clause-one_element : goal.returns-clause-one_element
unfolding same_by
returns-clause-one_element c = refl

pub returns-clause-empty : goal.returns-clause-empty
unfolding same_by
returns-clause-empty c = refl

pub returns-clause-not_empty : goal.returns-clause-not_empty
unfolding same_by
returns-clause-not_empty c = refl

pub returns-clause-later : goal.returns-clause-later
unfolding same_by
returns-clause-later c = refl

pub returns-clause-map : goal.returns-clause-map
unfolding same_by
returns-clause-map c = refl

pub returns-clause-no_map : goal.returns-clause-no_map
unfolding same_by
returns-clause-no_map c = refl

pub returns-clause-empty_map : goal.returns-clause-empty_map
unfolding same_by
returns-clause-empty_map c = refl
