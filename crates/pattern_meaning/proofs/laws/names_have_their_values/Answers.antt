use Rattle.std.proofs.Common.{[]}
use Rattle.pattern_meaning.proofs.Firsts.{puts_all}
use Rattle.pattern_meaning.proofs.laws.names_have_their_values.Goals as goal

pub returns : goal.returns
returns c = λ w b e p h. (puts_all w [] b e).there p h
