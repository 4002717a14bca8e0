use Rattle.std.proofs.Common.{refl}
use Rattle.grammar_fronts.proofs.Longest.{front_is_viable}
use Rattle.grammar_fronts.proofs.laws.fronts_are_viable.Goals as goal

pub returns : goal.returns
returns c = record { nothing = λ kind. refl; fronts = λ kind front rest. front_is_viable _ front rest }
