use Rattle.operator_laws.proofs.SetMembers.{power_members}
use Rattle.operator_laws.proofs.set_laws.power_sets_have_the_subsets.Goals as goal

pub returns : goal.returns
returns c = power_members
