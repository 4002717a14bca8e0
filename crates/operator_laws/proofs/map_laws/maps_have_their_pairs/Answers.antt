use Rattle.operator_laws.proofs.MapPairs.{domain_members, range_members}
use Rattle.operator_laws.proofs.map_laws.maps_have_their_pairs.Goals as goal

pub returns-clause-domain : goal.returns-clause-domain
returns-clause-domain c = domain_members

pub returns-clause-range : goal.returns-clause-range
returns-clause-range c = range_members
