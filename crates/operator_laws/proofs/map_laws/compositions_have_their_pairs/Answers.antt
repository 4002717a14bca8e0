use Rattle.operator_laws.proofs.MapPairs.{composed_pairs}
use Rattle.operator_laws.proofs.map_laws.compositions_have_their_pairs.Goals as goal

pub returns : goal.returns
returns c = composed_pairs
