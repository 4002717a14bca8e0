use Rattle.value_operators.proofs.Lists.{union_members, inter_members, difference_members, subset_members}
use Rattle.value_operators.proofs.laws.sets_have_their_members.Goals as goal

pub returns-clause-union : goal.returns-clause-union
returns-clause-union c = union_members

pub returns-clause-inter : goal.returns-clause-inter
returns-clause-inter c = inter_members

pub returns-clause-difference : goal.returns-clause-difference
returns-clause-difference c = difference_members

pub returns-clause-subset : goal.returns-clause-subset
returns-clause-subset c = subset_members
