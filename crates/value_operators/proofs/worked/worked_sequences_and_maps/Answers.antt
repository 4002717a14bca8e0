use Rattle.std.proofs.Common.{refl}
use Rattle.value_operators.specs.Outcomes.{sized}
use Rattle.abstract_syntax.specs.SameBy.{same_by}
use Rattle.value_operators.proofs.worked.worked_sequences_and_maps.Goals as goal

pub returns-clause-joined : goal.returns-clause-joined
unfolding sized same_by
returns-clause-joined c = refl

pub returns-clause-no_head : goal.returns-clause-no_head
unfolding sized same_by
returns-clause-no_head c = refl

pub returns-clause-tail : goal.returns-clause-tail
unfolding sized same_by
returns-clause-tail c = refl

pub returns-clause-indices : goal.returns-clause-indices
unfolding sized same_by
returns-clause-indices c = refl

pub returns-clause-elements : goal.returns-clause-elements
unfolding sized same_by
returns-clause-elements c = refl

pub returns-clause-looked_up : goal.returns-clause-looked_up
unfolding sized same_by
returns-clause-looked_up c = refl

pub returns-clause-past : goal.returns-clause-past
unfolding sized same_by
returns-clause-past c = refl

pub returns-clause-before : goal.returns-clause-before
unfolding sized same_by
returns-clause-before c = refl

pub returns-clause-part : goal.returns-clause-part
unfolding sized same_by
returns-clause-part c = refl

pub returns-clause-replaced : goal.returns-clause-replaced
unfolding sized same_by
returns-clause-replaced c = refl

pub returns-clause-no_place : goal.returns-clause-no_place
unfolding sized same_by
returns-clause-no_place c = refl

pub returns-clause-looked_up_in_map : goal.returns-clause-looked_up_in_map
unfolding sized same_by
returns-clause-looked_up_in_map c = refl

pub returns-clause-no_key : goal.returns-clause-no_key
unfolding sized same_by
returns-clause-no_key c = refl

pub returns-clause-overridden : goal.returns-clause-overridden
unfolding sized same_by
returns-clause-overridden c = refl

pub returns-clause-conflict : goal.returns-clause-conflict
unfolding sized same_by
returns-clause-conflict c = refl

pub returns-clause-joined_maps : goal.returns-clause-joined_maps
unfolding sized same_by
returns-clause-joined_maps c = refl

pub returns-clause-inverse : goal.returns-clause-inverse
unfolding sized same_by
returns-clause-inverse c = refl

pub returns-clause-twice : goal.returns-clause-twice
unfolding sized same_by
returns-clause-twice c = refl

pub returns-clause-after : goal.returns-clause-after
unfolding sized same_by
returns-clause-after c = refl

pub returns-clause-leads_nowhere : goal.returns-clause-leads_nowhere
unfolding sized same_by
returns-clause-leads_nowhere c = refl

pub returns-clause-kept : goal.returns-clause-kept
unfolding sized same_by
returns-clause-kept c = refl

pub returns-clause-removed : goal.returns-clause-removed
unfolding sized same_by
returns-clause-removed c = refl
