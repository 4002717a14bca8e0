use Rattle.abstract_syntax.proofs.MapLaws.{set_is_canonical, map_is_canonical}
use Rattle.abstract_syntax.proofs.sets.sets_and_maps_are_canonical.Goals as goal

pub returns-clause-sets : goal.returns-clause-sets
returns-clause-sets c = set_is_canonical

pub returns-clause-maps : goal.returns-clause-maps
returns-clause-maps c = map_is_canonical
