use Rattle.grammar_fronts.proofs.Longest.{taken_is_longest, one_longest}
use Rattle.grammar_fronts.proofs.laws.one_longest_front.Goals as goal

pub returns : goal.returns
returns c = record { taken = taken_is_longest; one = one_longest }
