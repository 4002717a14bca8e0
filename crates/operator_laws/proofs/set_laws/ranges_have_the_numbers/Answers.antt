use Rattle.operator_laws.proofs.SetMembers.{interval_members}
use Rattle.operator_laws.proofs.set_laws.ranges_have_the_numbers.Goals as goal

pub returns : goal.returns
returns c = interval_members
