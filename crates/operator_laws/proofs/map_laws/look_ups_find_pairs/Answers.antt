use Rattle.operator_laws.proofs.MapPairs.{found_pairs}
use Rattle.operator_laws.proofs.map_laws.look_ups_find_pairs.Goals as goal

pub returns : goal.returns
returns c = found_pairs
