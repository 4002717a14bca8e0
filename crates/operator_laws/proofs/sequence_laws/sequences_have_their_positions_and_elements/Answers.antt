use Rattle.operator_laws.proofs.SetMembers.{position_members, element_members}
use Rattle.operator_laws.proofs.sequence_laws.sequences_have_their_positions_and_elements.Goals as goal

pub returns-clause-positions : goal.returns-clause-positions
returns-clause-positions c = position_members

pub returns-clause-elements : goal.returns-clause-elements
returns-clause-elements c = element_members
