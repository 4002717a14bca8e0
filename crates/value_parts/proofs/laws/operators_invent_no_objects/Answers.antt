use Rattle.value_parts.proofs.SequenceObjects.{subsequence_keeps}
use Rattle.value_parts.proofs.OperatorObjects.{applied_one_keeps, applied_two_keeps}
use Rattle.value_parts.proofs.laws.operators_invent_no_objects.Goals as goal

pub returns-clause-one : goal.returns-clause-one
returns-clause-one g c = applied_one_keeps g.T.ObjectProperty.holds

pub returns-clause-two : goal.returns-clause-two
returns-clause-two g c = applied_two_keeps g.T.ObjectProperty.holds

pub returns-clause-subsequence : goal.returns-clause-subsequence
returns-clause-subsequence g c = subsequence_keeps g.T.ObjectProperty.holds
