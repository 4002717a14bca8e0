use Rattle.operator_laws.proofs.SetMembers.{union_members, inter_members}
use Rattle.operator_laws.proofs.set_laws.sets_of_sets_have_their_members.Goals as goal

pub returns-clause-union : goal.returns-clause-union
returns-clause-union c = union_members

pub returns-clause-inter : goal.returns-clause-inter
returns-clause-inter c = inter_members
